-- What a client receives after its first request, element by element and slot by slot. A history is
-- a list of moments, the latest first.
use Rattle.std.specs.Prelude.{ℕ, ◌+◌, ◌==◌, ◌&&◌, Bool, false, not, max, nat_lt, if◌then◌else◌}
use Rattle.std.specs.Prelude.{List, [], ◌∷◌, ◌++◌, length, drop, unwrap_or}
use Rattle.rtp_pack.specs.Heads.{head_at}
use Rattle.rtsp_client.specs.Replies.{play_range, play_start, setup_session}

-- a reply; a block on channel 0, a frame; a block on channel 1, a report; a slot began, while so
-- many bytes waited of a block on channel 0 or 1 that wasn't complete
pub data ClientEvent : Type 0 where
  Reply : List ℕ → ClientEvent
  Frame : List ℕ → ClientEvent
  Report : List ℕ → ClientEvent
  Slot : ℕ → ℕ → ClientEvent

abbrev pub History : Type 0
History = List ClientEvent

-- the number of replies, and of frames
abbrev pub replies : History → ℕ
replies [] = 0
replies (Reply message ∷ h) = replies h + 1
replies (event ∷ h) = replies h

abbrev pub frames : History → ℕ
frames [] = 0
frames (Frame block ∷ h) = frames h + 1
frames (event ∷ h) = frames h

-- the reply to PLAY was received, which is the second one
abbrev pub is_playing : History → Bool
is_playing h = nat_lt 1 (replies h)

-- the number of reports after that reply
abbrev pub reports : History → ℕ
reports [] = 0
reports (Report block ∷ h) = if is_playing h then reports h + 1 else reports h
reports (event ∷ h) = reports h

-- the bytes of frames and reports after that reply; frames come after it alone
abbrev pub bytes_received : History → ℕ
bytes_received [] = 0
bytes_received (Frame block ∷ h) = bytes_received h + length block
bytes_received (Report block ∷ h) = if is_playing h then bytes_received h + length block
    else bytes_received h
bytes_received (event ∷ h) = bytes_received h

-- whether a frame is the last of its unit
abbrev pub is_last : List ℕ → Bool
is_last block = (head_at (drop 4 block)).marker

-- a frame was received of a unit that isn't complete
abbrev pub is_inside : History → Bool
is_inside [] = false
is_inside (Frame block ∷ h) = not (is_last block)
is_inside (event ∷ h) = is_inside h

-- the bytes so far of the unit that isn't complete: its frames, and the reports directly before its
-- first one
abbrev pub bytes_pending : History → ℕ
bytes_pending [] = 0
bytes_pending (Frame block ∷ h) = if is_last block then 0 else bytes_pending h + length block
bytes_pending (Report block ∷ h) = if is_playing h && not (is_inside h)
    then bytes_pending h + length block else bytes_pending h
bytes_pending (event ∷ h) = bytes_pending h

-- the sizes of the complete units, in order
abbrev pub sizes : History → List ℕ
sizes [] = []
sizes (Frame block ∷ h) = if is_last block
    then sizes h ++ (bytes_pending h + length block) ∷ [] else sizes h
sizes (event ∷ h) = sizes h

-- the payloads of the frames, one after another
abbrev pub payloads : History → List ℕ
payloads [] = []
payloads (Frame block ∷ h) = payloads h ++ drop 20 block
payloads (event ∷ h) = payloads h

-- the greatest slot that was received; 0 where there was none
abbrev pub last_slot : History → ℕ
last_slot [] = 0
last_slot (Slot slot cut ∷ h) = max slot (last_slot h)
last_slot (event ∷ h) = last_slot h

-- the session that the first reply names
abbrev pub session : History → List ℕ
session [] = []
session (Reply message ∷ h) = if replies h == 0
    then unwrap_or (setup_session message) [] else session h
session (event ∷ h) = session h

-- of the reply to PLAY: in how many slots the play starts, the greatest slot that was received
-- before it, the film's end in milliseconds
abbrev pub start : History → ℕ
start [] = 0
start (Reply message ∷ h) = if replies h == 1 then unwrap_or (play_start message) 0 else start h
start (event ∷ h) = start h

abbrev pub slot_before : History → ℕ
slot_before [] = 0
slot_before (Reply message ∷ h) = if replies h == 1 then last_slot h else slot_before h
slot_before (event ∷ h) = slot_before h

abbrev pub end_ms : History → ℕ
end_ms [] = 0
end_ms (Reply message ∷ h) = if replies h == 1 then unwrap_or (play_range message) 0 else end_ms h
end_ms (event ∷ h) = end_ms h

-- the first frame, and the latest one
abbrev pub first_frame : History → List ℕ
first_frame [] = []
first_frame (Frame block ∷ h) = if frames h == 0 then block else first_frame h
first_frame (event ∷ h) = first_frame h

abbrev pub latest_frame : History → List ℕ
latest_frame [] = []
latest_frame (Frame block ∷ h) = block
latest_frame (event ∷ h) = latest_frame h
