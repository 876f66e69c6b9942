-- What replies say, as a reader of RFC 2326's grammars finds it in their fields.
use Rattle.std.specs.Prelude.{ℕ, ◌≡◌, ◌+◌, ◌*◌, ◌%◌, ◌^◌, ◌<◌, ◌≤◌, ◌++◌, List, [], ◌∷◌, Option}
use Rattle.std.specs.Prelude.{Some, codes, decimal, string_bytes, length, true}
use Rattle.vod_base.specs.Names.{good_name}
use Rattle.std.specs.Int.{w32, to_be_bytes}
use Rattle.hex.specs.Hex.{encode_lower}
use Rattle.mpeg_scan.specs.PictureRates.{picture_time}
use Rattle.mpeg_scan.specs.declared.films.Film.{Film}
use Rattle.rtp_pack.specs.declared.reports.Identity.{Identity}
use Rattle.film_frames.specs.declared.stored_films.Stored.{Stored}
use Rattle.film_frames.specs.FramedRuns.{frames_before}
use Rattle.rtsp_fields.specs.Laws.{IsDescription}
use Rattle.rtsp_fields.specs.Ranges.{IsSpan}
use Rattle.rtsp_fields.specs.Urls.{IsRead}
use Rattle.rtsp_fields.specs.declared.ranges.Origin.TheVariants.{At}
use Rattle.rtsp_text.specs.Replies.{Field, reply_front, reply_text, value_named}
use Rattle.film_run.specs.declared.runs.Run.{Run}
use Rattle.session.specs.declared.commands.Ask.{Ask}
use Rattle.session.specs.declared.plans.Planned.{Planned}
use Rattle.film_streams.specs.declared.setups.Setup.{Setup}
use Rattle.film_streams.specs.declared.stream_numbers.StreamSource.{StreamSource}
use Rattle.session.specs.RunRequests.{sending_of}
use Rattle.session.specs.Methods.{Describes}
use Rattle.session.specs.RequestedPlans.{IsPlannedRun}
use Rattle.session.specs.SessionStates.{SessionState}

-- so many whole ticks, of `each` units, are in a time of so many units
pub record AreTicks (ticks each units : ℕ) : Type 0 where
  pub passed : ticks * each ≤ units
  pub no_more : units < (ticks + 1) * each

-- a Range value is read as the time from one unit of a film to another, in whole milliseconds (RFC
-- 2326 sections 3.6 and 12.29); units begin a picture time after one another
pub record HasRangeOf (film : Film) (first end : ℕ) (value : List ℕ) : Type 0 where
  pub from : ℕ
  pub to : ℕ
  pub from_is : AreTicks from 360 (first * picture_time film.rate)
  pub to_is : AreTicks to 360 (end * picture_time film.rate)
  pub read : IsSpan value (record { from = At (from * 1000000); to = Some (to * 1000000) })

-- an RTP-Info value (RFC 2326 section 12.33): a URL that names the film, under this authority; the
-- number of the frame that is next after so many; and the time at which a unit begins, as a
-- timestamp of 90,000 a second (RFC 2250 section 3.3)
pub record HasRtpInfo (stored : Stored) (source : StreamSource) (authority : List ℕ)
    (frames unit : ℕ) (value : List ℕ) : Type 0 where
  pub url : List ℕ
  pub number : ℕ
  pub ticks : ℕ
  pub time : ℕ
  pub names_film : IsRead url authority (Some (string_bytes stored.name))
  pub number_is : number ≡ (source.sequence + frames) % 2 ^ 16
  pub ticks_are : AreTicks ticks 4 (unit * picture_time stored.film.rate)
  pub time_is : time ≡ (source.timestamp + ticks) % 2 ^ 32
  pub value_is : value ≡ codes "url=" ++ url ++ codes ";seq=" ++ decimal number
      ++ codes ";rtptime=" ++ decimal time

-- the fields of a play's reply: the session, the time from the run's first unplayed unit to its
-- end, and how the stream goes on from what was sent
pub record HasPlayFields (old : SessionState) (stored : Stored) (setup : Setup) (planned : Planned)
    (authority : List ℕ) (fields : List Field) : Type 0 where
  pub session : value_named (codes "Session") fields ≡ Some old.id
  pub range : List ℕ
  pub range_is : value_named (codes "Range") fields ≡ Some range
  pub span : HasRangeOf stored.film planned.run.from_unit planned.run.end_unit range
  pub info : List ℕ
  pub info_is : value_named (codes "RTP-Info") fields ≡ Some info
  pub told : HasRtpInfo stored old.source authority
      (planned.counts.frames
      + frames_before (sending_of stored.film old.source setup planned.counts planned.run)
      planned.run.sent)
      planned.run.from_unit info

-- the run of a PLAY has a plan, its URL an authority, and its film a good name
pub record IsPrintable (old : SessionState) (stored : Stored) (setup : Setup) (planned : Planned)
    (authority : List ℕ) : Type 0 where
  pub paused : Option Run
  pub range : Option (List ℕ)
  pub url : List ℕ
  pub name : Option (List ℕ)
  pub planned_is : IsPlannedRun old stored setup paused range planned
  pub read : IsRead url authority name
  pub good : good_name (string_bytes stored.name) ≡ true

pub record IsPlayReply (old : SessionState) (stored : Stored) (setup : Setup) (planned : Planned)
    (sequence : ℕ) (authority text : List ℕ) : Type 0 where
  pub fields : List Field
  pub text_is : text ≡ reply_front 200 (Some sequence) fields
  pub told : HasPlayFields old stored setup planned authority fields

-- a reply with the description of a film: its base is a URL of the film, and its length that of the
-- description, which gives the film's entire time in milliseconds (RFC 2326 appendix C)
pub record IsDescribeReply (sequence : ℕ) (authority name : List ℕ) (film : Film) (text : List ℕ)
    : Type 0 where
  pub fields : List Field
  pub body : List ℕ
  pub end : ℕ
  pub base : List ℕ
  pub text_is : text ≡ reply_text 200 (Some sequence) fields body
  pub base_is : value_named (codes "Content-Base") fields ≡ Some base
  pub names_film : IsRead base authority (Some name)
  pub kind : value_named (codes "Content-Type") fields ≡ Some (codes "application/sdp")
  pub size : value_named (codes "Content-Length") fields ≡ Some (decimal (length body))
  pub end_is : AreTicks end 360 (length film.units.items * picture_time film.rate)
  pub described : IsDescription body name (end * 1000000)

-- a film of which a description is given: of few units, each as long as a rate has it
pub record IsShort (film : Film) : Type 0 where
  pub few : length film.units.items ≤ 4194304
  pub brief : picture_time film.rate ≤ 360000

-- a film of a good name is described, under the authority of the request's URL
pub record IsDescribed (old : SessionState) (sequence : ℕ) (authority : List ℕ) (new : SessionState)
    : Type 0 where
  pub number : ℕ
  pub ask : Ask
  pub url : List ℕ
  pub asked : Option (List ℕ)
  pub describes : Describes old sequence number authority ask new
  pub read : IsRead url authority asked
  pub good : good_name (string_bytes describes.stored.name) ≡ true
  pub short : IsShort describes.stored.film

-- the reply of an admitted play ends with its start, counted from the last slot received
pub record HasStartInReply (old : SessionState) (start sequence : ℕ) (fields : List Field)
    (text : List ℕ) : Type 0 where
  pub slots : ℕ
  pub slots_are : old.heard + slots ≡ start
  pub text_is : text ≡ reply_text 200 (Some sequence)
      (fields ++ record { name = codes "x-Start"; value = decimal slots } ∷ []) []

-- the reply of a SETUP: on which channels frames and reports will go, and from which source (RFC
-- 2326 section 12.39); frames are sent under this identity
pub record IsSetupReply (sequence : ℕ) (identity : Identity) (id text : List ℕ) : Type 0 where
  pub fields : List Field
  pub transport : List ℕ
  pub text_is : text ≡ reply_text 200 (Some sequence) fields []
  pub session : value_named (codes "Session") fields ≡ Some id
  pub transport_is : value_named (codes "Transport") fields ≡ Some transport
  pub value_is : transport ≡ codes "RTP/AVP/TCP;unicast;interleaved=" ++ (decimal identity.channel
      ++ (codes "-" ++ (decimal identity.control
      ++ (codes ";ssrc=" ++ encode_lower (to_be_bytes w32 identity.ssrc)))))

-- the reply to a play for which the link has no room, and to one where the journal has none
pub record IsOverflowReply (sequence slot booked asked : ℕ) (text : List ℕ) : Type 0 where
  pub fields : List Field
  pub text_is : text ≡ reply_text 453 (Some sequence) fields []
  pub slot_is : value_named (codes "x-Slot") fields ≡ Some (decimal slot)
  pub booked_is : value_named (codes "x-Booked") fields ≡ Some (decimal booked)
  pub asked_is : value_named (codes "x-Asked") fields ≡ Some (decimal asked)

pub record IsFullReply (sequence entries live : ℕ) (text : List ℕ) : Type 0 where
  pub fields : List Field
  pub text_is : text ≡ reply_text 503 (Some sequence) fields []
  pub entries_are : value_named (codes "x-Entries") fields ≡ Some (decimal entries)
  pub open_is : value_named (codes "x-Open") fields ≡ Some (decimal live)

-- a body's line: a name and a number
abbrev pub number_line : List ℕ → ℕ → List ℕ
number_line name number = name ++ (codes ": " ++ (decimal number ++ codes "\r\n"))

-- the reply to a look: a line each for the slot up to which the book has come, the slot that was
-- looked at, and what is booked in it
pub record IsLookReply (sequence now at booked : ℕ) (text : List ℕ) : Type 0 where
  pub fields : List Field
  pub body : List ℕ
  pub text_is : text ≡ reply_text 200 (Some sequence) fields body
  pub kind : value_named (codes "Content-Type") fields ≡ Some (codes "text/parameters")
  pub size : value_named (codes "Content-Length") fields ≡ Some (decimal (length body))
  pub body_is : body ≡ number_line (codes "x-Now") now ++ (number_line (codes "x-Slot") at
      ++ number_line (codes "x-Booked") booked)
