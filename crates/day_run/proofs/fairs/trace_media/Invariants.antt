use Rattle.std.proofs.Common.{◌≡◌, length, map, take}
use Rattle.day_run.specs.declared.fairs.TheConstants.{SLOT_UNITS}
use Rattle.day_run.specs.FairProgress.{sizes_in}
use Rattle.day_run.specs.ClientStates.{trace_content}
use Rattle.day_run.specs.MediaContents.{media_content}
use Rattle.day_run.proofs.fairs.trace_media.Given as goal

abbrev pub invariant-loop-trace : goal.invariant-loop-trace
invariant-loop-trace l = record {
  count : length l.media.items ≡ l.trace-index;
  contents : map (media_content SLOT_UNITS) l.media.items
      ≡ map (trace_content SLOT_UNITS) (sizes_in (take l.trace-index l.traces));
}
