-- A play from its request to its note, in the terms of RFC 2326 and RFC 3550.
use Rattle.std.specs.Prelude.{ℕ, ◌≡◌, ◌+◌, ◌≤◌, ◌&&◌, ◌++◌, nat_le, nat_lt, if◌then◌else◌, List, []}
use Rattle.std.specs.Prelude.{◌∷◌, Some, codes, sum_by}
use Rattle.std.specs.List.{range_with_len}
use Rattle.plan_cert.specs.PlanSlots.{total_bytes}
use Rattle.film_frames.specs.declared.stored_films.Stored.{Stored}
use Rattle.film_frames.specs.Pieces.{frames_in, octets_in}
use Rattle.film_frames.specs.FramedRuns.{FramedRun, pieces_in, run_pieces}
use Rattle.film_frames.specs.Tracks.{IsBoundaryAfter}
use Rattle.film_run.specs.declared.runs.Run.{Run}
use Rattle.film_run.specs.declared.plans.Playback.{Playback}
use Rattle.film_run.specs.Plans.{IsPlanOf}
use Rattle.film_run.specs.Runs.{IsRun}
use Rattle.film_run.specs.Units.{stored_sizes}
use Rattle.mpeg_scan.specs.PictureRates.{picture_time}
use Rattle.rtp_pack.specs.declared.reports.Identity.{Identity}
use Rattle.rtsp_text.specs.Fields.{header_value}
use Rattle.rtsp_text.specs.declared.requests.Request.{Request}
use Rattle.session.specs.declared.commands.Ask.{Ask}
use Rattle.session.specs.declared.commands.Ask.TheVariants.{Reply}
use Rattle.rtsp_methods.specs.declared.methods.Method.{Method}
use Rattle.session_records.specs.declared.notes.PlayNote.{PlayNote}
use Rattle.session.specs.declared.plans.Planned.{Planned}
use Rattle.film_streams.specs.declared.settings.Settings.{Settings}
use Rattle.session.specs.declared.states.Play.{Play as Played}
use Rattle.film_streams.specs.declared.setups.Setup.{Setup}
use Rattle.session.specs.declared.states.State.TheVariants.{Playing}
use Rattle.session.specs.RequestEffects.{HasCode}
use Rattle.session.specs.RefusalOrder.{HasFilm, IsOwnTalk, IsReadAs}
use Rattle.session.specs.Laws.{GoesOn}
use Rattle.session.specs.RunRequests.{sending_of}
use Rattle.session.specs.SessionStates.{HaltAnswer, AwaitsNoAnswer, SessionState, awaited_answer}
use Rattle.session.specs.SessionStates.{with_reply}

-- a PLAY with a Range is received in Playing
pub record HasRangeInPlaying (old : SessionState) (message : List ℕ) (request : Request) : Type 0
  where
    pub setup : Setup
    pub play : Played
    pub value : List ℕ
    pub playing : old.state ≡ Playing setup play
    pub is_request : IsReadAs message request
    pub method : request.method.now ≡ codes "PLAY"
    pub range : header_value request.head.now (codes "Range") ≡ Some value

-- a message is refused: nothing is asked of the station, nothing but the reply changes, and that is
-- no 200
pub record IsDeclined (old : SessionState) (ask : Ask) (new : SessionState) : Type 0 where
  pub command : ask ≡ Reply
  pub leaves : new ≡ with_reply old new.text
  pub no_ok : ¬ HasCode 200 new.text

-- no refusal that is looked for before its state applies to a request of a method: it requires no
-- option, and names the session and the session's film
pub record PassesEarlierChecks (method : Method) (old : SessionState) (request : Request) : Type 0
  where
    pub talk : IsOwnTalk old.id old.state request method
    pub film : HasFilm old.films old.state request.url.now method

-- a halt keeps what was sent up to the first boundary that is reached
abbrev pub KeepsToBoundary : Played → ℕ → Type 0
KeepsToBoundary play keep =
    let place = play.pacer.before in
    IsBoundaryAfter play.pacer.pieces (place + play.pacer.sent) (place + keep)

-- the slots between two received ones that are not before a play's start
abbrev pub slots_missed : ℕ → ℕ → ℕ → ℕ
slots_missed heard slot start =
    sum_by (λ t. if nat_lt heard t && nat_le start t then 1 else 0) (range_with_len 0 slot)

-- after a run that was sent completely, all its frames were counted
abbrev pub HasCountedAll : Identity → Identity → FramedRun → Type 0
HasCountedAll before after sending =
    GoesOn before after (frames_in (pieces_in sending)) (octets_in (pieces_in sending))

-- the run of these units of a film, of which nothing was sent
abbrev pub unsent_run : ℕ → ℕ → Run
unsent_run first end =
    record { first_unit = first; end_unit = end; from_unit = first; sent = 0; played = 0 }

-- the run, and the client, that a note names
abbrev pub run_in : PlayNote → Run
run_in note = record {
  first_unit = note.first_unit;
  end_unit = note.end_unit;
  from_unit = note.from_unit;
  sent = note.sent_before;
  played = note.played;
}

abbrev pub client_in : Stored → Settings → PlayNote → Playback
client_in stored settings note = record {
  picture_units = picture_time stored.film.rate;
  slot_units = settings.slot_units;
  buffer = note.buffer;
  delay = note.delay;
}

-- a note names a run of a film and a client, and its plan is the plan of that run for that client;
-- the booking keeps no more than the plan's bytes
pub record IsCorrectNote (stored : Stored) (settings : Settings) (note : PlayNote) : Type 0 where
  pub run_is : IsRun (stored_sizes stored) (run_in note)
  pub plan_is : IsPlanOf (stored_sizes stored) (client_in stored settings note) (run_in note)
      note.plan
  pub keep : note.keep ≤ total_bytes note.plan

-- one note more was made, and it is sound; it keeps what the halt was asked to keep, or what is due
-- as the connection ends
pub record IsNoted (stored : Stored) (play : Played) (old new : SessionState) : Type 0 where
  pub note : PlayNote
  pub plays : new.plays ≡ old.plays ++ note ∷ []
  pub sound : IsCorrectNote stored old.settings note
  pub asked : (keep : ℕ) → awaited_answer old ≡ HaltAnswer keep → note.keep ≡ keep
  pub due : AwaitsNoAnswer old → note.keep ≡ play.pacer.due

-- what the station admitted is sent as it was asked for: the run from what was sent of it on, by
-- its plan from its start on, in frames whose numbers go on from what was sent in all
pub record IsSentAsAsked (old : SessionState) (stored : Stored) (setup : Setup) (planned : Planned)
    (place start : ℕ) (new : SessionState) : Type 0 where
  pub play : Played
  pub playing : new.state ≡ Playing setup play
  pub run : play.run ≡ planned.run
  pub plan : play.plan ≡ planned.plan
  pub place_is : play.place ≡ place
  pub start_is : play.start ≡ start
  pub paced : play.pacer.plan ≡ planned.plan
  pub begins : play.pacer.start ≡ start
  pub before : play.pacer.before ≡ planned.run.sent
  pub none : play.pacer.sent ≡ 0
  pub pieces : play.pacer.pieces ≡
      run_pieces (sending_of stored.film old.source setup new.counts planned.run)
  pub counts : new.counts ≡ planned.counts
