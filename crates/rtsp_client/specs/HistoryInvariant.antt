-- What a client keeps is what its history comes to.
use Rattle.std.specs.Prelude.{◌≡◌, ℕ, ◌+◌, ◌<◌, true, false, not, List, length, drop, slice_index}
use Rattle.std.specs.Prelude.{sum, take, Option, Some, None}
use Rattle.rtp_pack.specs.Heads.{head_at}
use Rattle.rtsp_client.specs.declared.clients.Client.{Client}
use Rattle.rtsp_client.specs.declared.frames.RtpSource.{RtpSource}
use Rattle.rtsp_client.specs.declared.play_reply.Play.{Play}
use Rattle.rtsp_client.specs.declared.watch_request.Wish.{Wish}
use Rattle.rtsp_client.specs.ClientHistory.{History, end_ms, first_frame, frames, is_inside}
use Rattle.rtsp_client.specs.ClientHistory.{is_last, is_playing, last_slot, latest_frame}
use Rattle.rtsp_client.specs.ClientHistory.{bytes_pending, bytes_received, replies, session, sizes}
use Rattle.rtsp_client.specs.ClientHistory.{slot_before, start}
use Rattle.rtsp_client.specs.Films.{time_in, units}
use Rattle.rtsp_client.specs.Meters.{watched_in}
use Rattle.rtsp_client.specs.ClientState.{replies_in, session_of}
use Rattle.rtsp_client.specs.States.{State, is_between}

-- the sums of the first sizes, one after another
pub record AreSumsOf (ends sizes : List ℕ) : Type 0 where
  pub count : length ends ≡ length sizes
  pub each : (k : ℕ) → k < length ends → slice_index ends k ≡ sum (take (k + 1) sizes)

pub record IsPlay (play : Play) (h : History) : Type 0 where
  pub playing : is_playing h ≡ true
  pub start_is : play.start ≡ start h
  pub slot_is : play.slot_before ≡ slot_before h
  pub end_is : play.end_ms ≡ end_ms h

abbrev pub IsPlayOf : Option Play → History → Type 0
IsPlayOf None h = is_playing h ≡ false
IsPlayOf (Some play) h = IsPlay play h

pub record IsSource (source : RtpSource) (h : History) : Type 0 where
  pub some : 0 < frames h
  pub ssrc_is : source.ssrc ≡ (head_at (drop 4 (first_frame h))).ssrc
  pub sequence_is : source.sequence ≡ (head_at (drop 4 (latest_frame h))).sequence
  pub marker_is : source.marker ≡ is_last (latest_frame h)
  pub time_is : source.picture_time ≡ time_in (first_frame h)
  pub units_are : source.units ≡ units h

abbrev pub IsSourceOf : Option RtpSource → History → Type 0
IsSourceOf None h = frames h ≡ 0
IsSourceOf (Some source) h = IsSource source h

pub record StateInvariant (wish : Wish) (h : History) (s : State) : Type 0 where
  pub last_slot_is : s.last_slot ≡ last_slot h
  pub play_is : IsPlayOf s.play h
  pub source_is : IsSourceOf s.source h
  pub begun : 0 < frames h → is_playing h ≡ true
  pub inside : is_inside h ≡ not (is_between s.source)
  pub ends_are : AreSumsOf s.ends (sizes h)
  pub received_is : s.received ≡ bytes_received h
  pub taken_is : s.taken ≡ sum (sizes h) + bytes_pending h
  pub watched_is : s.watched ≡ watched_in wish h

pub record HistoryInvariant (wish : Wish) (h : History) (c : Client) : Type 0 where
  pub replies_are : replies_in c ≡ replies h
  pub session_is : session_of c ≡ session h
  pub state : StateInvariant wish h c.watching
