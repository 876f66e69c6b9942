-- The notes of a connection's report, event by event: each play that its entries admit has its note, and each answer of
-- the station's its receipt or its offer.
use Rattle.std.proofs.Common.{arith, ◌≡◌, ℕ, ◌++◌, List, [], ◌∷◌, refl, ◌∙◌, map}
use Rattle.std.proofs.lemmas.Grind.{common_steps}
use Rattle.std.proofs.lemmas.List.{append_assoc, append-nil, map-append}
use Rattle.connection_laws.proofs.Terms.{total_bytes, PlacedEntry, Awaited, Play, State, Playing, after_halt, kept_of}
use Rattle.connection_laws.proofs.Terms.{SessionState, Outcome, Entered, StationCall, kept_later, notes_of_calls}
use Rattle.connection_laws.proofs.Terms.{station_call, Stored, Settings, open_of, AwaitedAnswer, HaltAnswer, ConnReport}
use Rattle.connection_laws.proofs.Terms.{Activity, HasDone, doings_outcomes, outcome_of, entries_in, kept_among}
use Rattle.connection_laws.proofs.Terms.{first_stage}
use Rattle.session_records.specs.declared.notes.PlayNote.{PlayNote}
use Rattle.session.specs.SlotSteps.{note_of}
use Rattle.connection_laws.specs.Notes.{notes_of, noted_play, placed_plays}
use Rattle.conn.proofs.StationAnswers.{IsHaltEntry, FinishesAs, NothingLeft, DoneHalted}
use Rattle.connection_laws.proofs.RequestEffects.{RequestAnswer, Admission, Refusal, HaltMade, LookAnswer, at_halt}
use Rattle.connection_laws.proofs.RequestEffects.{request_answer}
use Rattle.connection_laws.proofs.StationAnswers.{closing, closes_as}
use Rattle.connection_laws.proofs.CourseTurns.{IsKeptByDoings, doings_kept, all_calls, turns_told}
use Rattle.connection_laws.proofs.BookedPlays.{kept_more}
use Rattle.connection_laws.proofs.Lists.{joins_parts}
use Rattle.connection_laws.specs.Receipts.{offer_in, offers_in, receipt_in, receipts_in}

-- the note of a play that is under way, by what comes later
abbrev open_note : State → List StationCall → List PlayNote
open_note (Playing setup play) turns = note_of setup play (kept_later turns (total_bytes play.plan)) ∷ []
open_note _ turns = []

-- the notes of turns, by what comes later
abbrev notes_until : List StationCall → List StationCall → List PlayNote
notes_until [] later = []
notes_until (turn ∷ turns) later = notes_of_calls turn.asking turn.outcome (turns ++ later) ++ notes_until turns later

-- what was noted and what is under way go on through turns
record Carries (old : SessionState) (turns : List StationCall) (new : SessionState) : Type 0 where
  on : (later : List StationCall) → (old.plays ++ open_note old.state (turns ++ later)) ++ notes_until turns later
      ≡ new.plays ++ open_note new.state later

until_append : (ts us later : List StationCall)
    → notes_until (ts ++ us) later ≡ notes_until ts (us ++ later) ++ notes_until us later
until_append [] us later = refl
until_append (t ∷ ts) us later = grind (arith, until_append ts us later, append_assoc)

-- no play is asked for, and of a play that is under way so much is kept
abbrev IsKept : State → Awaited → ℕ → Type 0
IsKept state (Play prepared) keep = ⊥
IsKept (Playing setup play) awaited keep = kept_of awaited play.pacer.due ≡ keep
IsKept _ awaited keep = Unit {0}

halt_turn : {keep : ℕ} {placed : PlacedEntry} (s : SessionState) → IsHaltEntry keep placed
    → IsKept s.state s.awaited keep → Carries s (station_call s (Entered placed) ∷ []) (after_halt s placed.place)
halt_turn {placed = placed} s entry kept = grind arith

-- by what was asked and answered
answered_on : {old asking new : SessionState} {outcome : Outcome} → RequestAnswer old asking outcome new
    → Carries old (station_call asking outcome ∷ []) new
answered_on (HaltMade halt entry) = record { on = (halt_turn (at_halt halt) entry refl).on }
answered_on {new = new} (Admission {base = base} play entry answered) = grind (arith, common_steps)
answered_on {old} {asking} {outcome = outcome} (Refusal play entry) = grind (arith, common_steps)
answered_on {old} {asking} {outcome = outcome} (LookAnswer {placed = placed} command looked) = grind
    (arith, common_steps)
answered_on {old} {asking} {new} {outcome} _ = grind (arith, common_steps)

-- what is halted as a slot or a connection ends is kept as it was asked for
finished_turn : {s new : SessionState} {asks : AwaitedAnswer} {halt : Outcome} → FinishesAs s asks halt new
    → ((keep : ℕ) → asks ≡ HaltAnswer keep → IsKept s.state s.awaited keep) → Carries s (station_call s halt ∷ []) new
finished_turn {s} NothingLeft kept = grind (arith, common_steps)
finished_turn {s} (DoneHalted {keep = keep} entry) kept = halt_turn s entry (kept keep refl)

closed_none : {s new : SessionState} {asks : AwaitedAnswer} {halt : Outcome} → FinishesAs s asks halt new
    → closing (open_of s) ≡ asks → open_note new.state [] ≡ []
closed_none given given' = grind arith

until_none : (turns : List StationCall) → notes_until turns [] ≡ notes_of turns
until_none [] = refl
until_none (turn ∷ turns) = rw (append-nil turns, until_none turns)

-- ---- turns and entries
abbrev made_by_turns : List StationCall → List PlacedEntry
made_by_turns turns = entries_in (map outcome_of turns)

keeps_as : (turns : List StationCall) (all : ℕ) → kept_later turns all ≡ kept_among (made_by_turns turns) all
keeps_as [] all = refl
keeps_as (turn ∷ turns) all = rw (keeps_as turns all, kept_more turn.outcome (made_by_turns turns) all)

-- notes go on, what is noted of answers grows by theirs, and a play's note is that of the play that its entry records
record Notes (old : SessionState) (turns : List StationCall) (new : SessionState) : Type 0 where
  carries : Carries old turns new
  plays : (later : List StationCall) → map noted_play (notes_until turns later) ++ placed_plays (made_by_turns later)
      ≡ placed_plays (made_by_turns (turns ++ later))
  receipts : new.receipts ≡ old.receipts ++ receipts_in (map outcome_of turns)
  offers : new.offers ≡ old.offers ++ offers_in (map outcome_of turns)

notes_answer : {old asking new : SessionState} {outcome : Outcome} → RequestAnswer old asking outcome new
    → Notes old (station_call asking outcome ∷ []) new
notes_answer given = record {
  carries = answered_on given;
  plays = grind (arith, common_steps, keeps_as);
  receipts = grind (arith, common_steps);
  offers = grind (arith, common_steps);
}

notes_finished : {s new : SessionState} {asks : AwaitedAnswer} {halt : Outcome} → FinishesAs s asks halt new
    → ((keep : ℕ) → asks ≡ HaltAnswer keep → IsKept s.state s.awaited keep) → Notes s (station_call s halt ∷ []) new
notes_finished given kept = let carries = finished_turn given kept in grind (arith, common_steps)

notes_kept : IsKeptByDoings Notes
notes_kept = record {
  none = grind (arith, common_steps);
  joins = λ a b c xs ys one two.
      let os = map outcome_of xs in
      let ps = map outcome_of ys in
      let receipts = joins_parts receipts_in (record { one = receipt_in; none = refl; more = λ x xs. refl }) os ps in
      let offers = joins_parts offers_in (record { one = offer_in; none = refl; more = λ x xs. refl }) os ps in
      let carries : Carries a xs b → Carries b ys c
      → Carries a (xs ++ ys) c = search (arith, append_assoc, until_append) in
      record {
        carries = carries one.carries two.carries;
        plays = search (arith, map-append, append_assoc, until_append);
        receipts = grind (arith, map-append, append_assoc, receipts);
        offers = grind (arith, map-append, append_assoc, offers);
      };
  request = λ old new message outcome heard. notes_answer (request_answer heard);
  reply = grind (arith, common_steps);
  slot = grind (arith, common_steps);
  finish = λ halt s new finishing. notes_finished finishing (grind arith);
  bytes = grind (arith, common_steps);
  failed = grind (arith, common_steps);
  lost = grind (arith, common_steps);
  close = λ halt last closed closes rest. notes_finished closes (grind arith);
}

module _ {films : List Stored} {settings : Settings} {words : List ℕ} {doings : Activity} {report : ConnReport}
    (done : HasDone films settings words doings report) where
  notes_all : Notes (first_stage films settings words).session (all_calls done) done.closed
  notes_all = doings_kept done notes_kept

  pub plays_noted : report.plays.items ≡ notes_of (all_calls done)
  plays_noted =
      let closed = closed_none (closes_as (open_of done.last.session) doings.halt done.closes) refl in
      let on = notes_all.carries.on [] in
      cc (done.report_is.plays, append-nil done.closed.plays, closed, on, until_none (all_calls done))

  pub entries_noted : map noted_play report.plays.items ≡ placed_plays (entries_in (doings_outcomes doings))
  entries_noted = cc (
    plays_noted,
    until_none (all_calls done),
    notes_all.plays [],
    append-nil (all_calls done),
    append-nil (map noted_play (notes_of (all_calls done))),
    turns_told done,
  )

  pub receipts_told : report.receipts.items ≡ receipts_in (doings_outcomes doings)
  receipts_told = done.report_is.receipts ∙ rw (turns_told done) at notes_all.receipts

  pub offers_told : report.offers.items ≡ offers_in (doings_outcomes doings)
  offers_told = done.report_is.offers ∙ rw (turns_told done) at notes_all.offers
