-- What a client keeps of what it received, and what each moment makes of it.
use Rattle.std.specs.Prelude.{ℕ, ◌+◌, ◌-◌, ◌*◌, ◌/◌, ◌%◌, ◌^◌, ◌==◌, ◌&&◌, Bool, true, false, not}
use Rattle.std.specs.Prelude.{max, min, nat_le, nat_lt, if◌then◌else◌, List, [], ◌∷◌, ◌++◌, length}
use Rattle.std.specs.Prelude.{drop, slice_index, Option, Some, None, Result, Ok, Err}
use Rattle.std.specs.Int.{div_ceil}
use Rattle.mpeg_scan.specs.PictureRates.{picture_time}
use Rattle.rtp_pack.specs.Heads.{head_of}
use Rattle.rtp_pack.specs.declared.heads.Head.{Head}
use Rattle.rtp_pack.specs.declared.heads.HeadFault.{HeadFault}
use Rattle.rtsp_client.specs.declared.watch_request.Wish.{Wish}
use Rattle.rtsp_client.specs.declared.watch_request.Watched.{Watched}
use Rattle.rtsp_client.specs.declared.frames.RtpSource.{RtpSource}
use Rattle.rtsp_client.specs.declared.play_reply.Play.{Play}
use Rattle.rtsp_client.specs.Films.{begins_film, rate_code, units_until}

-- the greatest slot, the reply to PLAY, the frames' source, for each complete unit the sum of its
-- size and those before it, the bytes of all frames and reports, those of all units with the one
-- that isn't complete, and what was received and read
pub record State : Type 0 where
  pub last_slot : ℕ
  pub play : Option Play
  pub source : Option RtpSource
  pub ends : List ℕ
  pub received : ℕ
  pub taken : ℕ
  pub watched : Watched

abbrev pub no_watched : Watched
no_watched = record { units = 0; bytes = 0; frames = 0; reports = 0; most = 0; over = 0; under = 0 }

-- nothing was received
abbrev pub new_state : State
new_state = record {
  last_slot = 0;
  play = None;
  source = None;
  ends = [];
  received = 0;
  taken = 0;
  watched = no_watched;
}

-- the reply to PLAY was received
abbrev pub after_play : State → ℕ → ℕ → State
after_play s start end_ms =
    record s { play = Some (record { start = start; slot_before = s.last_slot; end_ms = end_ms }) }

abbrev pub is_all : Option RtpSource → ℕ → Bool
is_all None units = false
is_all (Some source) units = units == source.units

-- all units are complete
abbrev pub has_all : State → Bool
has_all s = is_all s.source s.watched.units

-- what the first frame says, if its payload begins a film of 1 to 4,194,304 units
abbrev pub first_source : Head → List ℕ → ℕ → Option RtpSource
first_source head payload end_ms =
    let time = picture_time (rate_code payload) in
    let units = units_until end_ms time in
    if begins_film payload && (nat_le 1 units && nat_le units 4194304)
    then Some (record {
      ssrc = head.ssrc;
      sequence = head.sequence;
      marker = head.marker;
      picture_time = time;
      units = units;
    })
    else None

-- what the frames say with one more, if it is the next one
abbrev pub next_source : RtpSource → Head → Option RtpSource
next_source source head =
    if (head.ssrc == source.ssrc) && (head.sequence == (source.sequence + 1) % 2 ^ 16)
    then Some (record source { sequence = head.sequence; marker = head.marker })
    else None

abbrev pub source_after : Option RtpSource → Head → List ℕ → ℕ → Option RtpSource
source_after None head payload end_ms = first_source head payload end_ms
source_after (Some source) head payload end_ms = next_source source head

abbrev pub source_read : Option RtpSource → Result Head HeadFault → List ℕ → ℕ → Option RtpSource
source_read source (Err fault) payload end_ms = None
source_read source (Ok head) payload end_ms = source_after source head payload end_ms

abbrev pub source_played : Option Play → State → List ℕ → Option RtpSource
source_played None s block = None
source_played (Some play) s block =
    if has_all s then None
    else source_read s.source (head_of (drop 4 block)) (drop 20 block) play.end_ms

-- what the frames say with this block, if it is the next frame of the film
abbrev pub source_with : State → List ℕ → Option RtpSource
source_with s block = source_played s.play s block

-- a frame of so many bytes was received
abbrev pub after_frame : State → RtpSource → ℕ → State
after_frame s source length =
    let watched = record s.watched {
      frames = s.watched.frames + 1;
      bytes = s.watched.bytes + (length - 20);
      units = if source.marker then s.watched.units + 1 else s.watched.units;
    } in
    record s {
      source = Some source;
      received = s.received + length;
      taken = s.taken + length;
      ends = if source.marker then s.ends ++ (s.taken + length) ∷ [] else s.ends;
      watched = watched;
    }

-- no unit is begun that isn't complete
abbrev pub is_between : Option RtpSource → Bool
is_between None = true
is_between (Some source) = source.marker

-- a report of so many bytes was received
abbrev pub report_in : Option Play → State → ℕ → State
report_in None s length = s
report_in (Some play) s length = record s {
  received = s.received + length;
  taken = if is_between s.source then s.taken + length else s.taken;
  watched = record s.watched { reports = s.watched.reports + 1 };
}

abbrev pub after_report : State → ℕ → State
after_report s length = report_in s.play s length

-- the time of a picture; 0 before the first frame
abbrev pub time_of : Option RtpSource → ℕ
time_of None = 0
time_of (Some source) = source.picture_time

-- the bytes of the complete units that are used before a slot of the play
abbrev pub used_bytes : List ℕ → ℕ → ℕ
used_bytes ends count = if count == 0 then 0 else slice_index ends (count - 1)

abbrev pub played_of : Wish → Option RtpSource → List ℕ → ℕ → ℕ
played_of wish None ends slot = 0
played_of wish (Some source) ends slot =
    used_bytes ends (min (div_ceil ((slot - wish.startup) * wish.slot_units) source.picture_time)
    (length ends))

-- a unit is used in this slot of the play, or before it, that isn't complete
abbrev pub is_lacking : Wish → State → ℕ → Bool
is_lacking wish s slot =
    not (has_all s) && nat_le (s.watched.units * time_of s.source / wish.slot_units
    + wish.startup) slot

-- the meter was read
abbrev pub after_reading : Wish → State → ℕ → ℕ → State
after_reading wish s place cut =
    let waiting = (s.received + cut) - played_of wish s.source s.ends place in
    let watched = record s.watched {
      most = max s.watched.most waiting;
      over = if nat_lt wish.buffer waiting then s.watched.over + 1 else s.watched.over;
      under = if is_lacking wish s place then s.watched.under + 1 else s.watched.under;
    } in
    record s { watched = watched }

-- the number of a slot from the play's first one on
abbrev pub place_of : Option Play → ℕ → Option ℕ
place_of None slot = None
place_of (Some play) slot = if nat_le play.start (slot - play.slot_before)
    then Some ((slot - play.slot_before) - play.start) else None

abbrev pub reading_at : Wish → State → Option ℕ → ℕ → State
reading_at wish s None cut = s
reading_at wish s (Some place) cut = after_reading wish s place cut

-- a slot began, while so many bytes waited of a block that isn't complete
abbrev pub after_slot : Wish → State → ℕ → ℕ → State
after_slot wish s slot cut =
    if nat_le slot s.last_slot then s
    else reading_at wish (record s { last_slot = slot }) (place_of s.play slot) cut
