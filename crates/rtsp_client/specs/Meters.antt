-- The meter of a client's buffer. It is read at each new slot from the play's first one on.
use Rattle.std.specs.Prelude.{ℕ, ◌+◌, ◌-◌, ◌*◌, ◌/◌, ◌==◌, ◌&&◌, Bool, not}
use Rattle.std.specs.Prelude.{max, nat_le, nat_lt, if◌then◌else◌, List, [], ◌∷◌, length}
use Rattle.rtsp_client.specs.declared.watch_request.Wish.{Wish}
use Rattle.rtsp_client.specs.declared.watch_request.Watched.{Watched}
use Rattle.rtsp_client.specs.ClientHistory.{History, Frame, Reply, Report, Slot, first_frame}
use Rattle.rtsp_client.specs.ClientHistory.{frames, is_playing, last_slot, payloads, bytes_received}
use Rattle.rtsp_client.specs.ClientHistory.{reports, sizes, slot_before, start}
use Rattle.rtsp_client.specs.Films.{is_complete, time_in}

-- in which slot of the play a unit is used, where a picture takes so many 1/360,000 seconds
abbrev pub use_slot : Wish → ℕ → ℕ → ℕ
use_slot wish time unit = unit * time / wish.slot_units + wish.startup

-- the bytes of the units that are used before a slot of the play, among units of these sizes, of
-- which the first has this number
abbrev pub used_before : Wish → ℕ → ℕ → ℕ → List ℕ → ℕ
used_before wish time slot unit [] = 0
used_before wish time slot unit (size ∷ sizes) =
    (if nat_lt (use_slot wish time unit) slot then size else 0)
    + used_before wish time slot (unit + 1) sizes

-- the time of a picture of the film; 0 before its first frame
abbrev pub time : History → ℕ
time h = if frames h == 0 then 0 else time_in (first_frame h)

-- the bytes of the complete units that are used before a slot of the play
abbrev pub played_before : Wish → History → ℕ → ℕ
played_before wish h slot = used_before wish (time h) slot 0 (sizes h)

-- the play's first slot, and the number of a slot from that one on
abbrev pub first_slot : History → ℕ
first_slot h = start h + slot_before h

abbrev pub place_in : History → ℕ → ℕ
place_in h slot = slot - first_slot h

-- the meter is read as this slot begins
abbrev pub is_read : History → ℕ → Bool
is_read h slot = is_playing h && (nat_le (first_slot h) slot && nat_lt (last_slot h) slot)

-- the bytes that wait to be played as a slot begins, where so many wait of a block that isn't
-- complete
abbrev pub bytes_waiting : Wish → History → ℕ → ℕ → ℕ
bytes_waiting wish h slot cut = (bytes_received h + cut) - played_before wish h (place_in h slot)

-- the first unit that isn't complete is used in this slot of the play, or was to be used before it.
-- Units are used in their order.
abbrev pub lacks_picture : Wish → History → ℕ → Bool
lacks_picture wish h slot =
    not (is_complete h) && nat_le (use_slot wish (time h) (length (sizes h))) slot

-- the most bytes that waited at a reading
abbrev pub most_waiting : Wish → History → ℕ
most_waiting wish [] = 0
most_waiting wish (Reply message ∷ h) = most_waiting wish h
most_waiting wish (Frame block ∷ h) = most_waiting wish h
most_waiting wish (Report block ∷ h) = most_waiting wish h
most_waiting wish (Slot slot cut ∷ h) = if is_read h slot
    then max (most_waiting wish h) (bytes_waiting wish h slot cut) else most_waiting wish h

-- at how many readings more waited than the buffer holds
abbrev pub count_over : Wish → History → ℕ
count_over wish [] = 0
count_over wish (Reply message ∷ h) = count_over wish h
count_over wish (Frame block ∷ h) = count_over wish h
count_over wish (Report block ∷ h) = count_over wish h
count_over wish (Slot slot cut ∷ h) =
    if is_read h slot && nat_lt wish.buffer (bytes_waiting wish h slot cut)
    then count_over wish h + 1 else count_over wish h

-- at how many readings a unit was to be used that wasn't complete
abbrev pub count_under : Wish → History → ℕ
count_under wish [] = 0
count_under wish (Reply message ∷ h) = count_under wish h
count_under wish (Frame block ∷ h) = count_under wish h
count_under wish (Report block ∷ h) = count_under wish h
count_under wish (Slot slot cut ∷ h) = if is_read h slot && lacks_picture wish h (place_in h slot)
    then count_under wish h + 1 else count_under wish h

-- what was received and read
abbrev pub watched_in : Wish → History → Watched
watched_in wish h = record {
  units = length (sizes h);
  bytes = length (payloads h);
  frames = frames h;
  reports = reports h;
  most = most_waiting wish h;
  over = count_over wish h;
  under = count_under wish h;
}
