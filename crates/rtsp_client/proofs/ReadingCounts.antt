-- The counts of the meter are those of its readings.
use Rattle.std.proofs.Common.{◌≡◌, ℕ, ◌+◌, ◌&&◌, Bool, true, false, cond, List, [], ◌∷◌, length, refl, arith}
use Rattle.std.specs.List.{filter}
use Rattle.rtsp_client.specs.declared.watch_request.Wish.{Wish}
use Rattle.rtsp_client.specs.ClientHistory.{History, Slot}
use Rattle.rtsp_client.specs.MeterReadings.{MeterReading, is_overrun, is_underrun, readings}
use Rattle.rtsp_client.specs.Meters.{bytes_waiting, count_over, count_under, is_read, lacks_picture, place_in}

-- a count of one more where a reading is so
one-more : (test : MeterReading → Bool) (read : Bool) (reading : MeterReading) (count : ℕ) (rest : List MeterReading)
    → count ≡ length (filter test rest)
    → cond (read && test reading) (count + 1) count ≡ length (filter test (cond read (reading ∷ rest) rest))
one-more test false reading count rest is = is
one-more test true reading count rest is = here (test reading) is
  where
    here : (passes : Bool) → count ≡ length (filter test rest)
        → cond passes (count + 1) count ≡ length (cond passes (reading ∷ filter test rest) (filter test rest))
    here true is = omega (arith, is)
    here false is = is

abbrev reading-at : Wish → History → ℕ → ℕ → MeterReading
reading-at wish h slot cut = record {
  slot = place_in h slot;
  waiting = bytes_waiting wish h slot cut;
  lacks = lacks_picture wish h (place_in h slot);
}

pub over-counted : (wish : Wish) (h : History) → count_over wish h ≡ length (filter (is_overrun wish) (readings wish h))
over-counted wish [] = refl
over-counted wish (Slot slot cut ∷ h) =
    one-more (is_overrun wish) (is_read h slot) (reading-at wish h slot cut) (count_over wish h) (readings wish h)
    (over-counted wish h)
over-counted wish (_ ∷ h) = over-counted wish h

pub under-counted : (wish : Wish) (h : History) → count_under wish h ≡ length (filter is_underrun (readings wish h))
under-counted wish [] = refl
under-counted wish (Slot slot cut ∷ h) =
    one-more is_underrun (is_read h slot) (reading-at wish h slot cut) (count_under wish h) (readings wish h)
    (under-counted wish h)
under-counted wish (_ ∷ h) = under-counted wish h
