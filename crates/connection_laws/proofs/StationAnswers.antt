-- What the station can answer, case by case, in a slot and as a connection ends; and the session after each answer.
use Rattle.std.proofs.lemmas.Grind.{common_steps}
use Rattle.std.proofs.Common.{arith, ◌≡◌, ℕ, ◌<◌, List, Option, Some, None, refl, ap, sym, ◌&&◌, if◌then◌else◌, Bool}
use Rattle.std.proofs.Common.{[], true, false}
use Rattle.connection_laws.proofs.Terms.{Answer, Admitted, Halted, Looked, Overflow, PlacedEntry, Ask, AfterHalt}
use Rattle.connection_laws.proofs.Terms.{Awaited, Halt, after_admission, after_full, after_halt, after_look}
use Rattle.connection_laws.proofs.Terms.{after_offer, after_overflow, after_slot, after_play, is_sending, sent_slot}
use Rattle.connection_laws.proofs.Terms.{OpenBooking, SessionState, awaited_answer_of, AwaitedAnswer, NoAnswer}
use Rattle.connection_laws.proofs.Terms.{HaltAnswer, IsClosed, Outcome, Unasked, Entered, WasFull, Offered, SentPart}
use Rattle.connection_laws.proofs.Terms.{slot_parts, due_parts}
use Rattle.conn.proofs.StationAnswers.{AnswersAs, PlayAdmitted, PlayOverflowed, PlayHalted, LookMade, FinishesAs}
use Rattle.conn.proofs.StationAnswers.{finishes_as}

-- the session after an answer
abbrev after_entry : SessionState → PlacedEntry → Answer → SessionState
after_entry asking placed (Admitted start) = after_admission asking placed.place start
after_entry asking placed (Overflow slot booked asked) = after_overflow asking placed.place slot booked asked
after_entry asking placed Halted = after_halt asking placed.place
after_entry asking placed (Looked now at booked) = after_look asking placed.place now at booked

abbrev pub after_outcome : SessionState → Outcome → SessionState
after_outcome asking Unasked = asking
after_outcome asking (Entered placed) = after_entry asking placed placed.entry.answer
after_outcome asking (WasFull more entries live) = after_full asking entries live
after_outcome asking (Offered at_slot note) = after_offer asking note

pub answer_leaves : {old new : SessionState} {ask : Ask} {outcome : Outcome} → AnswersAs old ask outcome new
    → new ≡ after_outcome old outcome
answer_leaves {old} (PlayAdmitted {placed = p} entry answered) = ap (after_entry old p) (sym entry.answer_is)
answer_leaves {old} (PlayOverflowed {placed = p} entry) = ap (after_entry old p) (sym entry.answer_is)
answer_leaves {old} (PlayHalted {placed = p} entry) = ap (after_entry old p) (sym entry.answer_is)
answer_leaves {old} (LookMade {placed = p} is) = ap (after_entry old p) (sym is)
answer_leaves _ = refl

-- what a halt was asked for
pub halt_of : {keep : ℕ} (awaited : Awaited) → awaited_answer_of awaited ≡ HaltAnswer keep
    → (next : AfterHalt) × (awaited ≡ Halt keep next)
halt_of awaited given = grind arith

-- a connection ends without an open booking, or it halts its booking with what is due
abbrev pub closing : Option OpenBooking → AwaitedAnswer
closing None = NoAnswer
closing (Some booking) = HaltAnswer booking.due

pub closes_as : {old new : SessionState} (held : Option OpenBooking) (outcome : Outcome) → IsClosed held old outcome new
    → FinishesAs old (closing held) outcome new
closes_as held outcome given = grind (arith, finishes_as)

-- a slot was processed: what is due was sent, or nothing is being sent, or the slot is past
pub data SlotTo (old : SessionState) (slot : ℕ) : SessionState → List SentPart → Type 0 where
  SlotSent : is_sending old.state ≡ true → old.heard < slot
      → SlotTo old slot (after_play (sent_slot old slot)) (due_parts old slot)
  SlotIdle : is_sending old.state ≡ false → old.heard < slot → SlotTo old slot (record old { heard = slot }) []
  SlotPast : SlotTo old slot old []

slot_by : {old : SessionState} {slot : ℕ} {taken sending : Bool} → (taken ≡ true → old.heard < slot)
    → is_sending old.state ≡ sending → SlotTo old slot
    (if taken then (if sending then after_play (sent_slot old slot) else record old { heard = slot }) else old)
    (if taken && sending then due_parts old slot else [])
slot_by {taken = true} {sending = true} later is = SlotSent is (later refl)
slot_by {taken = true} {sending = false} later is = SlotIdle is (later refl)
slot_by {taken = false} later is = SlotPast

pub slot_to : (old : SessionState) (slot : ℕ) → SlotTo old slot (after_slot old slot) (slot_parts old slot)
slot_to old slot = grind (arith, common_steps, slot_by)
