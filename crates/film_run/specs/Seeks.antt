-- The run that a PLAY's times ask for. A decoder can begin only at a group of pictures, so the
-- range that is played is aligned to groups, as RFC 2326 section 10.5 lets a server do.
use Rattle.std.specs.Prelude.{ℕ, ◌≡◌, ◌*◌, ◌^◌, ◌<◌, ◌≤◌, ◌⊎◌, true, List, length, Option, Some}
use Rattle.std.specs.Prelude.{None}
use Rattle.mpeg_scan.specs.declared.units.Unit.{Unit as PictureUnit}
use Rattle.mpeg_scan.specs.declared.films.Film.{Film}
use Rattle.mpeg_scan.specs.Layout.{OfUnit}
use Rattle.mpeg_scan.specs.PictureRates.{picture_time}
use Rattle.film_run.specs.declared.runs.Run.{Run}
use Rattle.film_run.specs.Units.{film_sizes}
use Rattle.film_run.specs.Runs.{IsNewRun}

-- Unit k of a film begins after k picture times, each so many units of 1/360,000 second. It begins
-- at or before a time in nanoseconds, or before it.
abbrev pub BeginsBy : ℕ → ℕ → ℕ → Type 0
BeginsBy picture_units time k = k * picture_units * 1000000000 ≤ time * 360000

abbrev pub BeginsBefore : ℕ → ℕ → ℕ → Type 0
BeginsBefore picture_units time k = k * picture_units * 1000000000 < time * 360000

-- A time in nanoseconds as whole units of 1/360,000 second, where a part of one isn't counted: a
-- place is at or before it, in units, exactly where it is at or before the time. No film ends later
-- than at 2^42.
pub record IsBefore (time begin : ℕ) : Type 0 where
  pub by_then : (place : ℕ) → place ≤ 2 ^ 42 → place ≤ begin → place * 1000000000 ≤ time * 360000
  pub all : (place : ℕ) → place ≤ 2 ^ 42 → place * 1000000000 ≤ time * 360000 → place ≤ begin

-- the same, where a part of one is counted as a whole one, of places at or after the time
pub record IsAfter (time end : ℕ) : Type 0 where
  pub from_then : (place : ℕ) → place ≤ 2 ^ 42 → end ≤ place → time * 360000 ≤ place * 1000000000
  pub all : (place : ℕ) → place ≤ 2 ^ 42 → time * 360000 ≤ place * 1000000000 → end ≤ place

-- of so many units, which take so long each, this is the first after a unit that begins at a time
-- or later, or the end
pub record IsPlaceAfter (units after time picture_units place : ℕ) : Type 0 where
  pub later : after < place
  pub within : place ≤ units
  pub begins : place < units → time ≤ place * picture_units
  pub least : (other : ℕ) → after < other → other < units → time ≤ other * picture_units
      → place ≤ other

-- unit k is there and starts a group
pub record StartsGroup (units : List PictureUnit) (k : ℕ) : Type 0 where
  pub within : k < length units
  pub starts : OfUnit units k (λ u. u.starts_group ≡ true)

-- the last group that begins at or before a time
pub record IsGroupBy (units : List PictureUnit) (picture_units time k : ℕ) : Type 0 where
  pub group : StartsGroup units k
  pub by_then : BeginsBy picture_units time k
  pub last : (other : ℕ) → StartsGroup units other → BeginsBy picture_units time other → other ≤ k

-- the first group after a unit that begins at or after a time, or the film's end, where there is
-- none
pub record IsGroupFrom (units : List PictureUnit) (picture_units time after k : ℕ) : Type 0 where
  pub later : after < k
  pub group : StartsGroup units k ⊎ (k ≡ length units)
  pub from_then : k < length units → ¬ BeginsBefore picture_units time k
  pub first : (other : ℕ) → after < other → StartsGroup units other →
      ¬ BeginsBefore picture_units time other → k ≤ other

-- the unit at which a run ends that begins with a unit: the film's end, or by a time
abbrev pub IsEnd : List PictureUnit → ℕ → Option ℕ → ℕ → ℕ → Type 0
IsEnd units picture_units None after k = k ≡ length units
IsEnd units picture_units (Some time) after k = IsGroupFrom units picture_units time after k

-- the time of the end isn't after that of the beginning
abbrev pub IsReversed : ℕ → Option ℕ → Type 0
IsReversed from None = ⊥
IsReversed from (Some time) = time ≤ from

-- nothing is to be played: the film has ended at the time of the beginning, or the times are in the
-- wrong order
abbrev pub HasNothing : Film → ℕ → Option ℕ → Type 0
HasNothing film from to = BeginsBy (picture_time film.rate) from (length film.units.items)
    ⊎ IsReversed from to

-- the new run that is asked for
pub record IsRequestedRange (film : Film) (from : ℕ) (to : Option ℕ) (run : Run) : Type 0 where
  pub some : ¬ HasNothing film from to
  pub begins : IsGroupBy film.units.items (picture_time film.rate) from run.first_unit
  pub ends : IsEnd film.units.items (picture_time film.rate) to run.first_unit run.end_unit
  pub new : IsNewRun
      (film_sizes film.slice_starts.items film.units.items) run.first_unit run.end_unit run
