use Rattle.connection_laws.proofs.AdmittedStarts.{asked_range, course_range, course_starts, latest_range}
use Rattle.connection_laws.proofs.laws.law_admitted_plays_start_in_range.Goals as goal

pub returns : goal.returns
returns c = record {
  asked = λ films settings words doings report done. asked_range done;
  latest = latest_range;
  next = course_starts;
  range = course_range;
}
