-- What the start codes so far say of the latest unit and of the film, as words: each is 0, false or
-- None where there is no unit, or no slice of it, of which it could speak.
use Rattle.std.specs.Prelude.{ℕ, Bool, Option}
use Rattle.mpeg_scan.specs.declared.tallies.Header.{Header}

pub record Tally : Type 0 where
  -- whether a code was read
  pub begun : Bool
  -- the rate code of the film's first sequence header
  pub rate : Option ℕ
  -- the place of the latest unit
  pub unit : ℕ
  -- its picture's header
  pub picture : Option Header
  -- the pictures of the film, and those of them before the latest group
  pub pictures : ℕ
  pub before_group : ℕ
  -- the slices of the latest unit, and those of the film
  pub slices : ℕ
  pub all_slices : ℕ
  -- the place of the latest unit's first slice, and of its latest
  pub head_end : ℕ
  pub slice : ℕ
  -- whether a sequence header stands in the latest unit's head
  pub has_sequence : Bool
  -- whether the latest unit starts a group
  pub starts_group : Bool
