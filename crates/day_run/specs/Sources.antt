-- The films and traces of a script.
use Rattle.std.specs.Prelude.{ℕ, ◌<◌, List, length, slice_index_or}
use Rattle.film_run.specs.Units.{AreUnitSizes}
use Rattle.day_run.specs.declared.media.Source.{Source}
use Rattle.day_run.specs.declared.media.Source.TheVariants.{Film, Trace}

-- a trace has at most 4,194,304 pictures, which have together at most 2^42 bytes
abbrev pub IsSource : Source → Type 0
IsSource (Film stored) = Unit {0}
IsSource (Trace sizes) = AreUnitSizes sizes.items

pub record AreSources (sources : List Source) : Type 0 where
  pub each : (i : ℕ) (none : Source) → i < length sources → IsSource (slice_index_or sources i none)
