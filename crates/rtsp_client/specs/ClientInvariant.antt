-- What is always true of what a client keeps.
use Rattle.std.specs.Prelude.{◌≡◌, ℕ, ◌^◌, ◌<◌, ◌≤◌, List, length, slice_index, Option, Some, None}
use Rattle.rtsp_client.specs.declared.frames.RtpSource.{RtpSource}
use Rattle.rtsp_client.specs.declared.play_reply.Play.{Play}
use Rattle.rtsp_client.specs.declared.watch_request.Watched.{Watched}

-- the reply to PLAY came after a slot, the greatest one that was received until then; the film's
-- end is some number of milliseconds
abbrev pub CameAfter : Option Play → ℕ → Type 0
CameAfter None slot = Unit {0}
CameAfter (Some play) slot = (play.slot_before ≤ slot) × (play.end_ms < 2 ^ 100)

-- a film's times and units, of which so many are complete
pub record IsSoundSource (source : RtpSource) (whole : ℕ) : Type 0 where
  pub some_time : 0 < source.picture_time
  pub most_time : source.picture_time ≤ 15015
  pub most_units : source.units ≤ 4194304
  pub among : whole ≤ source.units

abbrev pub HasSource : Option RtpSource → ℕ → Type 0
HasSource None whole = whole ≡ 0
HasSource (Some source) whole = IsSoundSource source whole

-- the counts are at most the bytes that were received, and those of readings at most the greatest
-- slot
pub record IsCounted (watched : Watched) (received last_slot : ℕ) : Type 0 where
  pub frames : watched.frames ≤ received
  pub reports : watched.reports ≤ received
  pub bytes : watched.bytes ≤ received
  pub over : watched.over ≤ last_slot
  pub under : watched.under ≤ last_slot

-- the units' ends are at most the bytes that were taken
abbrev pub AreEnds : List ℕ → ℕ → Type 0
AreEnds ends taken = (k : ℕ) → k < length ends → slice_index ends k ≤ taken

pub record IsSound (last_slot : ℕ) (play : Option Play) (source : Option RtpSource) (ends : List ℕ)
    (received taken : ℕ) (watched : Watched) : Type 0 where
  pub play_is : CameAfter play last_slot
  pub source_is : HasSource source (length ends)
  pub ends_are : AreEnds ends taken
  pub taken_is : taken ≤ received
  pub units_are : watched.units ≡ length ends
  pub counted : IsCounted watched received last_slot
