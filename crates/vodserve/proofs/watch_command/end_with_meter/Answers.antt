use Rattle.std.specs.Prelude.{is_ok}
use Rattle.vodserve.proofs.watch_command.end_with_meter.Goals as goal

pub returns-clause-says : goal.returns-clause-says
returns-clause-says g c = record {
  status = c.with_status.ensures.status;
  no_plan = c.with_status.ensures.no_plan;
  short = c.write_watched.ensures.short;
  whole = is_ok c.write_watched.result;
  said = c.write_watched.ensures.said;
}
