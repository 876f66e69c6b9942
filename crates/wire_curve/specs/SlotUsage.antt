-- What the steps of `film_curves` hand to one another: the bytes used in each slot.
use Rattle.std.specs.Prelude.{◌≡◌, ℕ, ◌+◌, ◌<◌, ◌≤◌, List, length, sum, take, slice_index, max, min}
use Rattle.wire_curve.specs.declared.film.Timing.{Timing}
use Rattle.wire_curve.specs.declared.curves.Curves.{Curves}
use Rattle.wire_curve.specs.declared.film.CurveFault.{CurveFault}
use Rattle.wire_curve.specs.declared.film.CurveFault.TheVariants.{NoPictures, TooManySlots}
use Rattle.wire_curve.specs.declared.film.CurveFault.TheVariants.{BufferTooSmall}
use Rattle.wire_curve.specs.FilmCurves.{slot_count, bytes_used_in}

-- the list has a number for each slot, the bytes used in it
pub record AreSlotUses (sizes : List ℕ) (timing : Timing) (uses : List ℕ) : Type 0 where
  pub slots : length uses ≡ slot_count sizes timing
  pub each : (t : ℕ) → t < slot_count sizes timing →
      slice_index uses t ≡ bytes_used_in sizes timing t

-- `slot` is the first one above the buffer, and `least` the greatest number of all
pub record IsFirstAbove (uses : List ℕ) (buffer slot used least : ℕ) : Type 0 where
  pub in_range : slot < length uses
  pub used_is : used ≡ slice_index uses slot
  pub above_buffer : buffer < used
  pub first : (t : ℕ) → t < slot → slice_index uses t ≤ buffer
  pub greatest : (t : ℕ) → t < length uses → slice_index uses t ≤ least
  pub reached : (t : ℕ) × (t < length uses) × (slice_index uses t ≡ least)

abbrev pub IsFaultOfSlotUses : List ℕ → ℕ → CurveFault → Type 0
IsFaultOfSlotUses uses buffer NoPictures = ⊥
IsFaultOfSlotUses uses buffer (TooManySlots slots) = ⊥
IsFaultOfSlotUses uses buffer (BufferTooSmall slot used least) =
    IsFirstAbove uses buffer slot used least

-- the bytes used before slot t, by the uses of the slots
abbrev pub used_by : Timing → List ℕ → ℕ → ℕ
used_by timing uses t = timing.played + sum (take t uses)

-- the lower curve, slot by slot
pub record IsLowerOfUses (timing : Timing) (uses low : List ℕ) : Type 0 where
  pub slots : length low ≡ length uses
  pub each : (t : ℕ) → t < length uses →
      slice_index low t ≡ max timing.sent (used_by timing uses (t + 1))

-- the upper one
pub record IsUpperOfUses (timing : Timing) (uses : List ℕ) (total : ℕ) (up : List ℕ) : Type 0 where
  pub slots : length up ≡ length uses
  pub each : (t : ℕ) → t < length uses →
      slice_index up t ≡ min total (used_by timing uses t + timing.buffer)

pub record AreCurvesOfUses (timing : Timing) (uses : List ℕ) (total : ℕ) (curves : Curves)
    : Type 0 where
  pub from_is : curves.from ≡ timing.sent
  pub low_slots : length curves.low.items ≡ length uses
  pub up_slots : length curves.up.items ≡ length uses
  pub low_is : (t : ℕ) → t < length uses →
      slice_index curves.low.items t ≡ max timing.sent (used_by timing uses (t + 1))
  pub up_is : (t : ℕ) → t < length uses →
      slice_index curves.up.items t ≡ min total (used_by timing uses t + timing.buffer)
