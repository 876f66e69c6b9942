-- What the station can answer to a session, and what an event can bring, case by case.
use Rattle.std.proofs.Common.{◌≡◌, ℕ, ◌++◌, List, [], refl, sym, subst}
use Rattle.vod_base.specs.Links.{IoEvent, HeardBytes, HeardSlot}
use Rattle.admission.specs.declared.entries.Answer.{Answer}
use Rattle.admission.specs.declared.entries.Answer.TheVariants.{Admitted, Halted, Looked, Overflow}
use Rattle.admission.specs.declared.entries.Command.TheVariants.{Halt as HaltCommand}
use Rattle.admission.specs.Makers.{PlacedEntry}
use Rattle.early_start.specs.StartSearch.{Offers}
use Rattle.plan_cert.specs.declared.Segment.{Segment}
use Rattle.station.specs.Ledgers.{play_of}
use Rattle.session.specs.declared.commands.Ask.{Ask}
use Rattle.session.specs.declared.commands.Ask.TheVariants.{Reply as AskReply, Play as AskPlay, Halt as AskHalt}
use Rattle.session.specs.declared.commands.Ask.TheVariants.{Look as AskLook, Offer as AskOffer}
use Rattle.session.specs.RequestSteps.{after_admission, after_full, after_halt, after_look, after_offer, after_overflow}
use Rattle.session.specs.SlotSteps.{after_slot}
use Rattle.session.specs.SessionStates.{AwaitedAnswer, NoAnswer, HaltAnswer, SessionState, awaited_answer}
use Rattle.session_records.specs.declared.notes.OfferNote.{OfferNote}
use Rattle.conn.specs.EventSteps.{Comes, Round}
use Rattle.conn.specs.InputSteps.{IsAskAnswered, IsFinished, IsLookAnswered, IsPlayAnswered, Outcome, Unasked}
use Rattle.conn.specs.InputSteps.{ElementStep, Entered, WasFull, Offered, SentPart, Stage, slot_parts, stage}

-- an entry is that of a play, and it has this answer
pub record IsPlayEntry (old : SessionState) (plan : List Segment) (placed : PlacedEntry) (answer : Answer)
    : Type 0 where
  pub command : placed.entry.command ≡ play_of old.heard plan
  pub answer_is : placed.entry.answer ≡ answer

-- an entry halts a booking, and keeps so many of its bytes
pub record IsHaltEntry (keep : ℕ) (placed : PlacedEntry) : Type 0 where
  pub number : ℕ
  pub command : placed.entry.command ≡ HaltCommand number keep
  pub answer_is : placed.entry.answer ≡ Halted

-- the station's answer to what was asked, and the session after it
pub data AnswersAs (old : SessionState) : Ask → Outcome → SessionState → Type 0 where
  NoneAsked : AnswersAs old AskReply Unasked old
  PlayAdmitted : {plan : List Segment} {placed : PlacedEntry} {start : ℕ} → IsPlayEntry old plan placed (Admitted start)
      → IsPlayAnswered old placed (Admitted start) (after_admission old placed.place start)
      → AnswersAs old (AskPlay plan) (Entered placed) (after_admission old placed.place start)
  PlayOverflowed : {plan : List Segment} {placed : PlacedEntry} {slot booked asked : ℕ}
      → IsPlayEntry old plan placed (Overflow slot booked asked)
      → AnswersAs old (AskPlay plan) (Entered placed) (after_overflow old placed.place slot booked asked)
  PlayFull : {plan : List Segment} {more entries live : ℕ} → more ≡ 2
      → AnswersAs old (AskPlay plan) (WasFull more entries live) (after_full old entries live)
  PlayHalted : {keep : ℕ} {placed : PlacedEntry} → IsHaltEntry keep placed
      → AnswersAs old (AskHalt keep) (Entered placed) (after_halt old placed.place)
  LookMade : {slot now at booked : ℕ} {placed : PlacedEntry} → placed.entry.answer ≡ Looked now at booked
      → AnswersAs old (AskLook slot) (Entered placed) (after_look old placed.place now at booked)
  LookFull : {slot more entries live : ℕ} → AnswersAs old (AskLook slot) (WasFull more entries live)
      (after_full old entries live)
  OfferMade : {plan : List Segment} {offers : Offers} {at_slot : ℕ} {note : OfferNote}
      → AnswersAs old (AskOffer plan offers) (Offered at_slot note) (after_offer old note)

-- a slot leaves nothing to ask, or a play that is done is halted
pub data FinishesAs (old : SessionState) : AwaitedAnswer → Outcome → SessionState → Type 0 where
  NothingLeft : FinishesAs old NoAnswer Unasked old
  DoneHalted : {keep : ℕ} {placed : PlacedEntry} → IsHaltEntry keep placed
      → FinishesAs old (HaltAnswer keep) (Entered placed) (after_halt old placed.place)

-- an event came: bytes that wait from now on, or a slot
pub data ComesAs (old : Stage) : Round → Stage → Type 0 where
  BytesCame : {bytes : List ℕ} {takings : List ElementStep}
      → ComesAs old (record { event = HeardBytes bytes; due = []; halt = Unasked; takings = takings })
      (stage old.session (old.input ++ bytes))
  SlotCame : {slot : ℕ} {halt : Outcome} {takings : List ElementStep} {new : SessionState}
      → FinishesAs (after_slot old.session slot) (awaited_answer (after_slot old.session slot)) halt new
      → ComesAs old (record {
        event = HeardSlot slot;
        due = slot_parts old.session slot;
        halt = halt;
        takings = takings;
      }) (stage new old.input)

module _ {old new : SessionState} where
  pub answers_as : (ask : Ask) (outcome : Outcome) → IsAskAnswered old ask outcome new → AnswersAs old ask outcome new
  answers_as AskReply Unasked answered = rw answered NoneAsked
  answers_as (AskPlay plan) (Entered placed) answered =
      by-answer placed.entry.answer (record { command = answered.0; answer_is = refl }) answered.1
    where
      by-answer : (answer : Answer) → IsPlayEntry old plan placed answer → IsPlayAnswered old placed answer new
          → AnswersAs old (AskPlay plan) (Entered placed) new
      by-answer (Admitted start) entry answered =
          rw answered.1 (PlayAdmitted entry (subst (IsPlayAnswered old placed (Admitted start)) answered.1 answered))
      by-answer (Overflow slot booked asked) entry answered = rw answered (PlayOverflowed entry)
      by-answer _ entry answered = absurd answered
  answers_as (AskPlay plan) (WasFull more entries live) answered = rw answered.0 (PlayFull answered.1)
  answers_as (AskHalt keep) (Entered placed) answered = rw answered.halts
      (PlayHalted (record { number = answered.number; command = answered.command; answer_is = answered.answer }))
  answers_as (AskLook slot) (Entered placed) answered = by-answer placed.entry.answer refl answered.1
    where
      by-answer : (answer : Answer) → placed.entry.answer ≡ answer → IsLookAnswered old placed answer new
          → AnswersAs old (AskLook slot) (Entered placed) new
      by-answer (Looked now at booked) is answered = rw answered (LookMade is)
      by-answer _ is answered = absurd answered
  answers_as (AskLook slot) (WasFull more entries live) answered = rw answered.0 LookFull
  answers_as (AskOffer plan offers) (Offered at_slot note) answered = rw answered.2 OfferMade
  answers_as _ _ answered = absurd answered

  pub finishes_as : (asks : AwaitedAnswer) (outcome : Outcome) → IsFinished asks old outcome new
      → FinishesAs old asks outcome new
  finishes_as NoAnswer Unasked is = rw is NothingLeft
  finishes_as (HaltAnswer keep) (Entered placed) is =
      rw is.halts (DoneHalted (record { number = is.number; command = is.command; answer_is = is.answer }))
  finishes_as _ _ is = absurd is

pub comes_as : {old new : Stage} (round : Round) → Comes old round.event round.due round.halt new
    → ComesAs old round new
comes_as {old} {new} round comes = by-event round.event round.due round.halt comes
  where
    by-event : (event : IoEvent) (due : List SentPart) (halt : Outcome) → Comes old event due halt new
        → ComesAs old (record { event = event; due = due; halt = halt; takings = round.takings }) new
    by-event (HeardBytes bytes) due halt comes = rw (comes.3, comes.0, comes.1) BytesCame
    by-event (HeardSlot slot) due halt comes =
        let its : Round = record { event = HeardSlot slot; due = due; halt = halt; takings = round.takings } in
        subst (λ i. ComesAs old its (stage new.session i)) (sym comes.0) (rw comes.1.parts_are
        (SlotCame (finishes_as (awaited_answer (after_slot old.session slot)) halt comes.1.finished)))
    by-event _ due halt comes = absurd comes
