-- What a scanner knows of places and counts: its latest unit and slice began well before the next
-- code, so that the parts that it reports have the lengths that the grammar gives; and its counts
-- have room for that code.
use Rattle.std.specs.Prelude.{ℕ, ◌+◌, ◌-◌, ◌<◌, ◌≤◌, ◌≡◌, true, if◌then◌else◌, IsSome, Option}
use Rattle.std.specs.Option.{ForSome}
use Rattle.vod_base.specs.declared.limits.TheConstants.{MAX_FILM_PICTURES}
use Rattle.mpeg_scan.specs.declared.codes.Code.{Code}
use Rattle.mpeg_scan.specs.declared.codes.Prefix.{Prefix}
use Rattle.mpeg_scan.specs.declared.codes.Prefix.TheVariants.{Nothing, Zero, Zeros, Whole}
use Rattle.mpeg_scan.specs.declared.progress.Progress.{Progress}
use Rattle.mpeg_scan.specs.Tallies.{Tally}
use Rattle.mpeg_scan.specs.CodeFacts.{is_head, is_slice}
use Rattle.mpeg_scan.specs.CodeSteps.{tally_with}

-- how many bytes of the next prefix stand at the end
abbrev pub prefix_length : Prefix → ℕ
prefix_length Nothing = 0
prefix_length Zero = 1
prefix_length Zeros = 2
prefix_length Whole = 3

-- the counts of codes that aren't refused, before a place
pub record HasCounts (t : Tally) (place : ℕ) : Type 0 where
  pub pictures : t.pictures ≤ MAX_FILM_PICTURES
  pub group : t.before_group ≤ t.pictures
  pub slices : t.slices ≤ t.all_slices
  pub all : t.all_slices ≤ place

-- the latest unit began at least 3 bytes before a place, and its latest slice 4; a unit with slices
-- has a picture, and a film begins with a sequence header
pub record HasRoom (t : Tally) (place : ℕ) : Type 0 where
  pub from : t.unit ≤ place
  pub unit : t.begun ≡ true → t.unit + 3 ≤ place
  pub slice : 0 < t.slices → t.slice + 4 ≤ place
  pub picture : 0 < t.slices → IsSome t.picture
  pub rate : t.begun ≡ true → IsSome t.rate
  pub counts : HasCounts t place

-- the same of a tally without the latest code, which stands before the place
pub record HasRoomWith (latest : Option Code) (tally : Tally) (place : ℕ) : Type 0 where
  pub code : ForSome latest (λ c. c.place ≤ place)
  pub older : HasCounts tally place
  pub now : HasRoom (tally_with latest tally) place

-- the same of what was read, before the next prefix, of which a part may have been read
pub record IsAhead (s : Progress) : Type 0 where
  pub read : prefix_length s.prefix ≤ s.fed
  pub room : HasRoomWith s.latest s.tally (s.fed - prefix_length s.prefix)

-- where a unit has slices, it is known of the place of the latest that the next slice may begin
-- there
abbrev pub AwaitsSlice : (ℕ → Type 0) → Tally → Type 0
AwaitsSlice Ready t = 0 < t.slices → Ready t.slice

-- the same after a code
abbrev pub AwaitsSliceAfter : (ℕ → Type 0) → Tally → ℕ → ℕ → Type 0
AwaitsSliceAfter Ready t place value =
    0 < (if is_head value then 0 else (if is_slice value then t.slices + 1 else t.slices))
    → Ready (if is_slice value then place else (if is_head value then 0 else t.slice))
