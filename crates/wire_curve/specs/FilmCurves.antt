-- What a client's player has used by the end of each slot, and the two curves that follow (Salehi,
-- Zhang, Kurose and Towsley 1998): the bytes sent must have reached what is used, and the rest must
-- fit in the client's buffer.
use Rattle.std.specs.Prelude.{◌≡◌, ℕ, ◌+◌, ◌-◌, ◌*◌, ◌/◌, ◌<◌, ◌≤◌, List, length, sum, sum_by}
use Rattle.std.specs.Prelude.{slice_index, nat_lt, ◌==◌, if◌then◌else◌, max, min}
use Rattle.std.specs.List.{range_with_len}
use Rattle.vod_base.specs.declared.limits.TheConstants.{MAX_BYTES, MAX_DELAY, MAX_FILM_PICTURES}
use Rattle.wire_curve.specs.declared.film.TheConstants.{MAX_UNITS}
use Rattle.wire_curve.specs.declared.film.Timing.{Timing}
use Rattle.wire_curve.specs.declared.curves.Curves.{Curves}

-- the slot in which picture k is used, where `delay` slots pass before the first one
abbrev pub due_slot : Timing → ℕ → ℕ
due_slot timing k = k * timing.picture_units / timing.slot_units + timing.delay

-- the bytes used before slot t, that is by the end of slot t - 1: those played earlier, and each
-- picture that is due by then
abbrev pub used_before : List ℕ → Timing → ℕ → ℕ
used_before sizes timing t =
    timing.played + sum_by (λ k. if nat_lt (due_slot timing k) t
    then slice_index sizes k else 0) (range_with_len 0 (length sizes))

-- the bytes used in slot t: the pictures that are due in it
abbrev pub bytes_used_in : List ℕ → Timing → ℕ → ℕ
bytes_used_in sizes timing t =
    sum_by (λ k. if due_slot timing k == t
    then slice_index sizes k else 0) (range_with_len 0 (length sizes))

abbrev pub total_of : List ℕ → Timing → ℕ
total_of sizes timing = timing.played + sum sizes

-- the slots up to the one in which the last picture is used
abbrev pub slot_count : List ℕ → Timing → ℕ
slot_count sizes timing = due_slot timing (length sizes - 1) + 1

-- what must have been sent by the end of slot t
abbrev pub low_at : List ℕ → Timing → ℕ → ℕ
low_at sizes timing t = max timing.sent (used_before sizes timing (t + 1))

-- what may have been sent by the end of slot t: the buffer is full, where nothing of slot t is used
-- yet
abbrev pub up_at : List ℕ → Timing → ℕ → ℕ
up_at sizes timing t = min (total_of sizes timing) (used_before sizes timing t + timing.buffer)

-- the limits that a caller of `film_curves` satisfies
pub record IsWithinLimits (sizes : List ℕ) (timing : Timing) : Type 0 where
  pub some_picture_units : 1 ≤ timing.picture_units
  pub picture_units_fit : timing.picture_units ≤ MAX_UNITS
  pub some_slot_units : 1 ≤ timing.slot_units
  pub slot_units_fit : timing.slot_units ≤ MAX_UNITS
  pub few_pictures : length sizes ≤ MAX_FILM_PICTURES
  pub delay_fits : timing.delay ≤ MAX_DELAY
  pub some_buffer : 1 ≤ timing.buffer
  pub buffer_fits : timing.buffer ≤ MAX_BYTES
  pub total_fits : total_of sizes timing ≤ MAX_BYTES
  pub played_was_sent : timing.played ≤ timing.sent
  pub sent_of_total : timing.sent ≤ total_of sizes timing
  pub sent_fits_buffer : timing.sent ≤ timing.played + timing.buffer

-- the curves of these pictures, number by number
pub record AreFilmCurves (sizes : List ℕ) (timing : Timing) (curves : Curves) : Type 0 where
  pub from_is : curves.from ≡ timing.sent
  pub low_slots : length curves.low.items ≡ slot_count sizes timing
  pub up_slots : length curves.up.items ≡ slot_count sizes timing
  pub low_is : (t : ℕ) → t < slot_count sizes timing →
      slice_index curves.low.items t ≡ low_at sizes timing t
  pub up_is : (t : ℕ) → t < slot_count sizes timing →
      slice_index curves.up.items t ≡ up_at sizes timing t
