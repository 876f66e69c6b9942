-- The readings of a client's meter, one by one.
use Rattle.std.specs.Prelude.{ℕ, Bool, if◌then◌else◌, nat_lt, List, [], ◌∷◌}
use Rattle.rtsp_client.specs.declared.watch_request.Wish.{Wish}
use Rattle.rtsp_client.specs.ClientHistory.{History, Frame, Reply, Report, Slot}
use Rattle.rtsp_client.specs.Meters.{bytes_waiting, is_read, lacks_picture, place_in}

-- a reading: the slot of the play, the bytes that wait to be played as it begins, and whether a
-- picture is missing that is to be used by then
pub record MeterReading : Type 0 where
  pub slot : ℕ
  pub waiting : ℕ
  pub lacks : Bool

-- all readings of a history, the latest first
abbrev pub readings : Wish → History → List MeterReading
readings wish [] = []
readings wish (Reply message ∷ h) = readings wish h
readings wish (Frame block ∷ h) = readings wish h
readings wish (Report block ∷ h) = readings wish h
readings wish (Slot slot cut ∷ h) = if is_read h slot
    then record {
      slot = place_in h slot;
      waiting = bytes_waiting wish h slot cut;
      lacks = lacks_picture wish h (place_in h slot);
    } ∷ readings wish h
    else readings wish h

-- more waits than the buffer holds
abbrev pub is_overrun : Wish → MeterReading → Bool
is_overrun wish reading = nat_lt wish.buffer reading.waiting

abbrev pub is_underrun : MeterReading → Bool
is_underrun reading = reading.lacks
