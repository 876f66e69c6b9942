use Rattle.std.proofs.Common.{◌≡◌, ℕ, length, map, take}
use Rattle.std.specs.Prelude.{All}
use Rattle.day_run.specs.ClientStates.{source_content}
use Rattle.day_run.specs.DayLaws.{IsPlayable}
use Rattle.day_run.specs.MediaContents.{media_content}
use Rattle.day_run.proofs.media_sources.all_media_of.Given as goal

abbrev pub invariant-loop-source : goal.invariant-loop-source
invariant-loop-source l = record {
  count : length l.media.items ≡ l.source-index;
  contents : (slot_units : ℕ)
      → map (media_content slot_units) l.media.items ≡ map (source_content slot_units) (take l.source-index l.sources);
  playable : All IsPlayable (take l.source-index l.sources);
}
