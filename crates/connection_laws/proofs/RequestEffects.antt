-- What a request asks and how it is answered, case by case, and what that makes of a session: what is sent of a film,
-- and the play that begins or ends.
use Rattle.std.proofs.Common.{◌≡◌, ℕ, Bool, true, List, None, refl, ◌<◌, ◌^◌, [], ◌∷◌, false, ◌-◌, arith}
use Rattle.connection_laws.proofs.Terms.{PlacedEntry, Setup, next_boundary, IsPacerState, PacerState, Segment, Ask}
use Rattle.connection_laws.proofs.Terms.{Awaited, Play, Halt, Nothing, Prepared, Init, Ready, Playing, Stopping}
use Rattle.connection_laws.proofs.Terms.{after_admission, after_full, after_halt, after_look, after_offer}
use Rattle.connection_laws.proofs.Terms.{after_overflow, SessionState, OfferNote, look_in, HasHeard, IsAskAnswered}
use Rattle.connection_laws.proofs.Terms.{Outcome, Unasked, Entered, WasFull, Offered, entry_in, run_pieces, Answer}
use Rattle.connection_laws.proofs.Terms.{Admitted, Halted, Looked, Overflow, play_admitted, play_of, State}
use Rattle.connection_laws.proofs.Terms.{StationRequest, plays_begun, booked_by, kept_with, play_by}
use Rattle.early_start.specs.StartSearch.{Offers}
use Rattle.pacer.specs.PacerStates.{new_pacer_state}
use Rattle.session.specs.declared.commands.Ask.TheVariants.{Play as AskPlay, Look as AskLook, Offer as AskOffer}
use Rattle.session.specs.declared.states.Awaited.TheVariants.{Look, Offer}
use Rattle.session_laws.proofs.RunLemmas.{RunsAs, Replies, SetsUp, AsksPlay, Stops, AsksLook, AsksOffer, runs_as}
use Rattle.session_laws.proofs.RunLemmas.{AskedHalt, AskedPlay}
use Rattle.conn.specs.InputSteps.{IsPlayAnswered}
use Rattle.conn.proofs.StationAnswers.{AnswersAs, PlayAdmitted, PlayOverflowed, PlayFull, LookMade, LookFull, OfferMade}
use Rattle.conn.proofs.StationAnswers.{IsPlayEntry, IsHaltEntry, answers_as}
use Rattle.admission.specs.declared.entries.Command.TheVariants.{Halt as HaltCommand}
use Rattle.slot_calendar.specs.Plays.{Play as Booked}
use Rattle.station.specs.Ledgers.{look_at}

-- a session that is Ready asks for a play
abbrev pub before_play : {base : SessionState} → AskedPlay base → SessionState
before_play {base} play = record base { state = Ready play.setup play.paused }

abbrev pub at_play : {base : SessionState} → AskedPlay base → SessionState
at_play play = record (before_play play) { awaited = Play play.prepared; text = play.text }

-- a session that plays asks for a halt at the next boundary
abbrev pub before_halt : {base : SessionState} → AskedHalt base → SessionState
before_halt {base} halt = record base { state = Playing halt.setup halt.play }

abbrev pub at_halt : {base : SessionState} → AskedHalt base → SessionState
at_halt {base} halt = record base {
  state = Playing halt.setup (record halt.play { pacer = record halt.play.pacer { keep = halt.keep } });
  awaited = Halt halt.keep halt.next;
  text = halt.text;
}

-- a session asks for a look or an offer, or for a play, and its journal is full; its state is as before
abbrev pub asking_for : SessionState → Awaited → List ℕ → ℕ → SessionState
asking_for old awaited text looks = record old { awaited = awaited; text = text; looks_left = looks }

-- a request, and its answer: the session's own reply, that to a SETUP, or what the station answers
pub data RequestAnswer : SessionState → SessionState → Outcome → SessionState → Type 0 where
  OwnReply : {old : SessionState} {text : List ℕ} {tearing : Bool}
      → RequestAnswer old (record old { text = text; waits = true; tearing = tearing }) Unasked
      (record old { text = text; waits = true; tearing = tearing })
  SetupReply : {text : List ℕ} {setup : Setup} (old : SessionState)
      → RequestAnswer (record old { state = Init })
      (record old { text = text; waits = true; state = Ready setup None }) Unasked
      (record old { text = text; waits = true; state = Ready setup None })
  Admission : {base : SessionState} {placed : PlacedEntry} {start : ℕ} (play : AskedPlay base)
      → IsPlayEntry (at_play play) play.prepared.plan placed (Admitted start)
      → IsPlayAnswered (at_play play) placed (Admitted start) (after_admission (at_play play) placed.place start)
      → RequestAnswer (before_play play) (at_play play) (Entered placed)
      (after_admission (at_play play) placed.place start)
  Refusal : {base : SessionState} {placed : PlacedEntry} {slot booked asked : ℕ} (play : AskedPlay base)
      → IsPlayEntry (at_play play) play.prepared.plan placed (Overflow slot booked asked)
      → RequestAnswer (before_play play) (at_play play) (Entered placed)
      (after_overflow (at_play play) placed.place slot booked asked)
  HaltMade : {base : SessionState} {placed : PlacedEntry} (halt : AskedHalt base) → IsHaltEntry halt.keep placed
      → RequestAnswer (before_halt halt) (at_halt halt) (Entered placed) (after_halt (at_halt halt) placed.place)
  LookAnswer : {old : SessionState} {sequence now at booked : ℕ} {placed : PlacedEntry}
      → placed.entry.command ≡ look_at old.heard → placed.entry.answer ≡ Looked now at booked
      → RequestAnswer old (asking_for old (Look sequence) old.text (old.looks_left - 1)) (Entered placed)
      (after_look (asking_for old (Look sequence) old.text (old.looks_left - 1)) placed.place now at booked)
  JournalFull : {old : SessionState} {awaited : Awaited} {text : List ℕ} {looks more entries live : ℕ}
      → looks ≡ old.looks_left - look_in awaited → RequestAnswer old (asking_for old awaited text looks)
      (WasFull more entries live) (after_full (asking_for old awaited text looks) entries live)
  OfferAnswer : {old : SessionState} {sequence at_slot : ℕ} {note : OfferNote}
      → RequestAnswer old (asking_for old (Offer sequence) old.text old.looks_left) (Offered at_slot note)
      (after_offer (asking_for old (Offer sequence) old.text old.looks_left) note)

-- a request is answered so, by what it asked of the station
abbrev Answers : SessionState → Ask → SessionState → Type 0
Answers old ask asking = (outcome : Outcome) (new : SessionState) → IsAskAnswered asking ask outcome new
    → AnswersAs asking ask outcome new → RequestAnswer old asking outcome new

play_answer : {base : SessionState} (play : AskedPlay base)
    → Answers (before_play play) (AskPlay play.prepared.plan) (at_play play)
play_answer play outcome new is (PlayAdmitted entry answered) = Admission play entry answered
play_answer play outcome new is (PlayOverflowed entry) = Refusal play entry
play_answer play outcome new is (PlayFull more) = JournalFull {old = before_play play} (omega arith)

look_answer : (old : SessionState) (sequence : ℕ)
    → Answers old (AskLook old.heard) (asking_for old (Look sequence) old.text (old.looks_left - 1))
look_answer old sequence outcome new is (LookMade looked) = LookAnswer is.0 looked
look_answer old sequence outcome new is LookFull = JournalFull refl

offer_answer : {plan : List Segment} {offers : Offers} (old : SessionState) (sequence : ℕ)
    → Answers old (AskOffer plan offers) (asking_for old (Offer sequence) old.text old.looks_left)
offer_answer old sequence outcome new is OfferMade = OfferAnswer

answer_of : {old asking : SessionState} {ask : Ask} → RunsAs old ask asking → Answers old ask asking
answer_of {old} (Replies text tearing ask_is is) = rw (ask_is, is) (grind (arith, OwnReply))
answer_of {old} (SetsUp text setup init ask_is is) = rw (ask_is, is) (rw init (grind (arith, SetupReply)))
answer_of (AsksPlay play ask_is is) = rw (ask_is, is) (rw play.ready (play_answer play))
answer_of (Stops halt ask_is is) = rw (ask_is, is) (rw halt.playing (grind (arith, HaltMade)))
answer_of {old} (AsksLook sequence ask_is is) = rw (ask_is, is) (look_answer old sequence)
answer_of {old} (AsksOffer plan offers sequence ask_is is) = rw (ask_is, is) (offer_answer old sequence)

pub request_answer : {old new : SessionState} {message : List ℕ} {outcome : Outcome}
    (heard : HasHeard old message outcome new) → RequestAnswer old heard.asking outcome new
request_answer {outcome = outcome} heard = search (answer_of, runs_as, answers_as)

-- what of a film is being sent: nothing, a play, or the rest of one that was halted
pub data Sends : Type 0 where
  Idle : Sends
  Going : PacerState → Sends
  Ending : PacerState → Sends

abbrev pub sends_in : State → Sends
sends_in (Playing setup play) = Going play.pacer
sends_in (Stopping setup stop) = Ending stop.pacer
sends_in _ = Idle

-- a session that was answered: nothing is awaited, its reply waits, and the slot is the same
pub record IsAfter (old new : SessionState) : Type 0 where
  pub heard : new.heard ≡ old.heard
  pub awaited : new.awaited ≡ Nothing
  pub waits : new.waits ≡ true

-- the plays that an answer's entry records
abbrev pub told_by : Outcome → List PlacedEntry → List Booked
told_by (Entered placed) made = booked_by (play_admitted placed.entry.command placed.entry.answer) made
told_by _ made = []

-- neither begins nor halts a play
pub record IsStill (asked : Awaited) (outcome : Outcome) : Type 0 where
  pub none : (later : List StationRequest) → plays_begun asked outcome later ≡ []
  pub kept : (later : ℕ) → kept_with outcome later ≡ later
  pub untold : (made : List PlacedEntry) → told_by outcome made ≡ []

abbrev pub pacing_for : Prepared → ℕ → PacerState
pacing_for prepared start = new_pacer_state (run_pieces prepared.frames) prepared.run.sent prepared.paced start

-- an entry admits a play that was asked for in a slot
pub record IsAdmitted (heard : ℕ) (prepared : Prepared) (placed : PlacedEntry) : Type 0 where
  pub start : ℕ
  pub answer : placed.entry.answer ≡ Admitted start
  pub command : placed.entry.command ≡ play_of heard prepared.plan
  pub later : heard < start
  pub small : start < 2 ^ 64

-- the play that was asked for begins
pub record Begins (old : SessionState) (asked : Awaited) (outcome : Outcome) (new : SessionState) : Type 0 where
  pub prepared : Prepared
  pub placed : PlacedEntry
  pub admitted : IsAdmitted old.heard prepared placed
  pub idle : sends_in old.state ≡ Idle
  pub asked_is : asked ≡ Play prepared
  pub outcome_is : outcome ≡ Entered placed
  pub paced : prepared.paced ≡ prepared.plan
  pub sends : sends_in new.state ≡ Going (pacing_for prepared admitted.start)
  pub pacing : IsPacerState (pacing_for prepared admitted.start)

-- the play that is being sent is halted at the next boundary
pub record Halts (old : SessionState) (asked : Awaited) (outcome : Outcome) (new : SessionState) : Type 0 where
  pub pacing : PacerState
  pub placed : PlacedEntry
  pub number : ℕ
  pub going : sends_in old.state ≡ Going pacing
  pub outcome_is : outcome ≡ Entered placed
  pub command : placed.entry.command ≡ HaltCommand number (next_boundary pacing)
  pub answer : placed.entry.answer ≡ Halted
  pub none : (later : List StationRequest) → plays_begun asked outcome later ≡ []
  pub sends : sends_in new.state ≡ Ending (record pacing { keep = next_boundary pacing })

pub data TurnsAs (old : SessionState) (asked : Awaited) (outcome : Outcome) (new : SessionState) : Type 0 where
  Stays : sends_in new.state ≡ sends_in old.state → IsStill asked outcome → TurnsAs old asked outcome new
  Starts : Begins old asked outcome new → TurnsAs old asked outcome new
  Ends : Halts old asked outcome new → TurnsAs old asked outcome new

-- an answer that is no entry
pub no_entry : {asked : Awaited} (outcome : Outcome) → entry_in outcome ≡ [] → IsStill asked outcome
no_entry outcome given = grind arith

-- a play that isn't admitted
abbrev pub is_refused : Answer → Bool
is_refused (Overflow slot booked asked) = true
is_refused _ = false

pub refused_still : {old : SessionState} {prepared : Prepared} {placed : PlacedEntry} {answer : Answer}
    → IsPlayEntry old prepared.plan placed answer → is_refused answer ≡ true → IsStill (Play prepared) (Entered placed)
refused_still given given' = grind arith

pub looked_still : {sequence : ℕ} {placed : PlacedEntry} (slot : ℕ) → placed.entry.command ≡ look_at slot
    → IsStill (Look sequence) (Entered placed)
looked_still {placed = placed} slot command = grind arith

-- a play that begins is this one
pub begun_is : {old new : SessionState} {asked : Awaited} {outcome : Outcome} (begins : Begins old asked outcome new)
    (askings : List StationRequest) → plays_begun asked outcome askings
    ≡ play_by begins.prepared begins.admitted.start askings ∷ []
begun_is begins askings = rw (begins.outcome_is, begins.asked_is, begins.admitted.answer)

-- by what was asked and answered
turn_of : {old asking new : SessionState} {outcome : Outcome} → RequestAnswer old asking outcome new
    → TurnsAs old asking.awaited outcome new
turn_of (Admission {placed = placed} {start = start} play entry answered) =
    Starts (record {
      prepared = play.prepared;
      placed = placed;
      admitted = grind arith;
      idle = refl;
      asked_is = refl;
      outcome_is = refl;
      paced = answered.2.plan;
      sends = refl;
      pacing = answered.2.pacing;
    })
turn_of (Refusal play entry) = Stays refl (refused_still entry refl)
turn_of (HaltMade halt entry) = grind (arith, halt)
turn_of (LookAnswer command looked) = Stays refl (looked_still _ command)
turn_of _ = Stays refl (no_entry _ refl)

-- a request was received and answered
pub turns_as : {old new : SessionState} {message : List ℕ} {outcome : Outcome}
    (heard : HasHeard old message outcome new) → TurnsAs old heard.asking.awaited outcome new
turns_as heard = turn_of (request_answer heard)

pub answered_after : {old new : SessionState} {message : List ℕ} {outcome : Outcome}
    (heard : HasHeard old message outcome new) → old.awaited ≡ Nothing → IsAfter old new
answered_after heard rest = by-answer (request_answer heard) rest
  where
    by-answer : {old asking new : SessionState} {outcome : Outcome} → RequestAnswer old asking outcome new
        → old.awaited ≡ Nothing → IsAfter old new
    by-answer (HaltMade halt entry) rest = search arith
    by-answer _ rest = assumption
