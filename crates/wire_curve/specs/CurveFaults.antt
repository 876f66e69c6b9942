-- When pictures have no curves: the three faults, each with the numbers that it names.
use Rattle.std.specs.Prelude.{◌≡◌, ℕ, ◌<◌, ◌≤◌, List, length}
use Rattle.vod_base.specs.declared.limits.TheConstants.{MAX_SLOTS}
use Rattle.wire_curve.specs.declared.film.Timing.{Timing}
use Rattle.wire_curve.specs.declared.film.CurveFault.{CurveFault}
use Rattle.wire_curve.specs.declared.film.CurveFault.TheVariants.{NoPictures, TooManySlots}
use Rattle.wire_curve.specs.declared.film.CurveFault.TheVariants.{BufferTooSmall}
use Rattle.wire_curve.specs.declared.film.CurveRefused.{CurveRefused}
use Rattle.wire_curve.specs.declared.film.CurveRefused.TheVariants.{Fault, NoMemory}
use Rattle.wire_curve.specs.FilmCurves.{slot_count, bytes_used_in}

-- none of the three faults holds
pub record IsAccepted (sizes : List ℕ) (timing : Timing) : Type 0 where
  pub some_picture : 0 < length sizes
  pub few_slots : slot_count sizes timing ≤ MAX_SLOTS
  pub buffer_holds : (t : ℕ) → t < slot_count sizes timing →
      bytes_used_in sizes timing t ≤ timing.buffer

-- `slot` is the first one that uses more than the buffer holds, and `used` what it uses; `least` is
-- the greatest use of any slot, and so the least buffer that would do
pub record IsBufferTooSmall (sizes : List ℕ) (timing : Timing) (slot used least : ℕ) : Type 0 where
  pub in_range : slot < slot_count sizes timing
  pub used_is : used ≡ bytes_used_in sizes timing slot
  pub above_buffer : timing.buffer < used
  pub first : (t : ℕ) → t < slot → bytes_used_in sizes timing t ≤ timing.buffer
  pub greatest : (t : ℕ) → t < slot_count sizes timing → bytes_used_in sizes timing t ≤ least
  pub reached : (t : ℕ) × (t < slot_count sizes timing) × (bytes_used_in sizes timing t ≡ least)

-- the fault that the pictures have, the first one in the order of its variants
abbrev pub HasCurveFault : List ℕ → Timing → CurveFault → Type 0
HasCurveFault sizes timing NoPictures = length sizes ≡ 0
HasCurveFault sizes timing (TooManySlots slots) =
    (0 < length sizes) × (slots ≡ slot_count sizes timing) × (MAX_SLOTS < slots)
HasCurveFault sizes timing (BufferTooSmall slot used least) =
    (0 < length sizes) × (slot_count sizes timing ≤ MAX_SLOTS)
    × IsBufferTooSmall sizes timing slot used least

-- out of memory is the one answer that nothing decides
abbrev pub IsRefused : List ℕ → Timing → CurveRefused → Type 0
IsRefused sizes timing (Fault fault) = HasCurveFault sizes timing fault
IsRefused sizes timing NoMemory = Unit {0}
