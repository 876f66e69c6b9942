-- What the replies of a connection say about the station's answers.
use Rattle.std.proofs.lemmas.Grind.{common_steps}
use Rattle.std.proofs.Common.{◌≡◌, ℕ, ◌-◌, ◌++◌, Contains, List, [], ◌∷◌, get_or, refl, sym, ap, subst, arith, length}
use Rattle.conn.specs.Observations.{HasCourse, Observed}
use Rattle.std.proofs.lemmas.List.{append_assoc}
use Rattle.std.proofs.lemmas.List.Elements.{Contains-append_left, Contains-append_right, Contains-push}
use Rattle.std.specs.Fmt.{digits}
use Rattle.rtsp_text.specs.Replies.{reply_front, reply_text, status_line}
use Rattle.admission.specs.declared.entries.Answer.TheVariants.{Overflow}
use Rattle.admission.specs.Makers.{PlacedEntry}
use Rattle.slot_calendar.specs.declared.calendar.Overflow.{Overflow as Over}
use Rattle.session.specs.declared.commands.Ask.{Ask}
use Rattle.session.specs.RequestEffects.{HasCode, IsNoRefusal, RefusesNone}
use Rattle.rtsp_replies.specs.Replies.{full_text, overflow_text}
use Rattle.session.specs.SlotSteps.{after_slot}
use Rattle.session.specs.SessionStates.{AwaitedAnswer, SessionState}
use Rattle.conn.specs.InputSteps.{Outcome, Entered, WasFull, SentPart, Film, Text, Stage, ElementStep, Passed, Answered}
use Rattle.conn.specs.InputSteps.{HasHeard, TakesAll, slot_parts}
use Rattle.conn.specs.EventSteps.{Ending, Ends, AtElement, InReply, Round, Runs, RunsAll, ending_outcomes}
use Rattle.conn.specs.EventSteps.{round_outcomes, rounds_outcomes, takings_outcomes}
use Rattle.conn.specs.Films.{round_parts, rounds_parts, takings_parts}
use Rattle.conn.specs.Plays.{ending_rounds}
use Rattle.conn.specs.declared.reports.ConnEnd.{ConnEnd}
use Rattle.session.proofs.ReplyCodeLemmas.{hears_text, ok_plain}
use Rattle.conn.specs.Guarantees.{ReportsFullOf}
use Rattle.conn.proofs.JoinedLists.{joined-append}
use Rattle.conn.proofs.StationAnswers.{AnswersAs, ComesAs, FinishesAs, answers_as, comes_as, PlayAdmitted}
use Rattle.conn.proofs.StationAnswers.{PlayOverflowed, PlayFull, LookMade, LookFull, OfferMade, BytesCame, SlotCame}

-- three digits differ where the first does
other : {a x : ℕ} {more rest : List ℕ} → (a ≡ x → ⊥) → (a ∷ more) ≡ (x ∷ rest) → ⊥
other differ same = differ (ap (λ l. get_or l 0 0) same)

-- a text of 453 is none of 503, nor the other way round
overflow_not_full : (sequence slot booked asked : ℕ) → HasCode 503 (overflow_text sequence slot booked asked) → ⊥
unfolding reply_text reply_front status_line digits
overflow_not_full sequence slot booked asked is = other (λ p. absurd (omega (arith, p))) is

full_not_overflow : (sequence entries live : ℕ) → HasCode 453 (full_text sequence entries live) → ⊥
unfolding reply_text reply_front status_line digits
full_not_overflow sequence entries live is = other (λ p. absurd (omega (arith, p))) is

-- what a reply says about the station's answers
pub record TellsOver (text : List ℕ) : Type 0 where
  pub placed : PlacedEntry
  pub over : Over
  pub answer : placed.entry.answer ≡ Overflow over.slot over.booked over.asked
  pub sequence : ℕ
  pub text_is : text ≡ overflow_text sequence over.slot over.booked over.asked

-- by what the station has answered up to now
pub record IsTold (made : List Outcome) (text : List ℕ) : Type 0 where
  pub overflow : HasCode 453 text → (told : TellsOver text) × Contains made (Entered told.placed)
  pub full : HasCode 503 text → ReportsFullOf made text

abbrev pub AreReported : List Outcome → List SentPart → Type 0
AreReported made [] = Unit {0}
AreReported made (Film bytes ∷ parts) = AreReported made parts
AreReported made (Text text ∷ parts) = IsTold made text × AreReported made parts

told_plain : (made : List Outcome) (text : List ℕ) → IsNoRefusal text → IsTold made text
told_plain made text plain = grind arith

are_both : (made : List Outcome) (xs ys : List SentPart) → AreReported made xs → AreReported made ys → AreReported made
    (xs ++ ys)
are_both made [] ys first second = second
are_both made (Film bytes ∷ xs) ys first second = are_both made xs ys first second
are_both made (Text text ∷ xs) ys first second = (first.0, are_both made xs ys first.1 second)

-- what the station answers is reported
told_overflow : {made : List Outcome} (placed : PlacedEntry) (over : Over) (sequence : ℕ)
    → placed.entry.answer ≡ Overflow over.slot over.booked over.asked → Contains made (Entered placed)
    → IsTold made (overflow_text sequence over.slot over.booked over.asked)
told_overflow placed over sequence answer among = record {
  overflow = λ is. (
    record { placed = placed; over = over; answer = answer; sequence = sequence; text_is = refl },
    among,
  );
  full = λ is. absurd (overflow_not_full sequence over.slot over.booked over.asked is);
}

told_full : {made : List Outcome} {more : ℕ} (entries live sequence : ℕ) → Contains made (WasFull more entries live)
    → IsTold made (full_text sequence entries live)
told_full {more = more} entries live sequence among = record {
  overflow = λ is. absurd (full_not_overflow sequence entries live is);
  full = λ is. record {
    more = more;
    entries = entries;
    live = live;
    full = among;
    sequence = sequence;
    text_is = refl;
  };
}

-- what the station answers to a session whose own text states no refusal
heard_told : {old new : SessionState} {message : List ℕ} {outcome : Outcome} {made : List Outcome}
    → Contains made outcome → HasHeard old message outcome new → IsTold made new.text
heard_told {old} {message = message} {made = made} among heard =
    by-answer (hears_text old asking message heard.ask heard.hears) (answers_as heard.ask _ heard.answered) among
  where
    open heard use {asking}

    by-answer : {ask : Ask} {outcome : Outcome} {new : SessionState} → RefusesNone ask asking
        → AnswersAs asking ask outcome new → Contains made outcome → IsTold made new.text
    by-answer plain (PlayAdmitted {start = start} entry answered) among = search (arith, append_assoc)
    by-answer plain (PlayOverflowed {placed = placed} {slot} {booked} {asked} entry) among =
        told_overflow placed (record { slot = slot; booked = booked; asked = asked }) _ entry.answer_is among
    by-answer plain (PlayFull two) among = told_full _ _ _ among
    by-answer plain LookFull among = told_full _ _ _ among
    by-answer plain (LookMade is) among = told_plain _ _ (ok_plain _ _ _)
    by-answer plain OfferMade among = told_plain _ _ (ok_plain _ _ _)
    by-answer plain _ among = told_plain _ asking.text plain

-- each of these answers is among them
abbrev AreAmong : List Outcome → List Outcome → Type 0
AreAmong made more = (outcome : Outcome) → Contains more outcome → Contains made outcome

among_first : (made xs ys : List Outcome) → AreAmong made (xs ++ ys) → AreAmong made xs
among_first made xs ys all x within = all x (Contains-append_left xs ys x within)

among_rest : (made xs ys : List Outcome) → AreAmong made (xs ++ ys) → AreAmong made ys
among_rest made xs ys all x within = all x (Contains-append_right xs ys x within)

-- elements: what was sent shows it, and so does the reply that waits
record Tells (made : List Outcome) (s : SessionState) (parts : List SentPart) : Type 0 where
  waiting : IsTold made s.text
  sent : AreReported made parts

takings_tell : (made : List Outcome) (old new : Stage) (takings : List ElementStep)
    → AreAmong made (takings_outcomes takings) → IsTold made old.session.text → TakesAll old takings new
    → Tells made new.session (takings_parts takings)
takings_tell made old new [] all told takes = grind (arith, common_steps)
takings_tell made old new (Passed n ∷ takings) all told takes =
    takings_tell made takes.0 new takings all (rw takes.1.0.2 told) takes.1.1
takings_tell made old new (Answered message outcome parts ∷ takings) all told takes =
    let taken = takes.1.0 in
    let among = among_first made (outcome ∷ []) (takings_outcomes takings) all outcome (Contains-push [] outcome) in
    let heard : IsTold made taken.answered.text = heard_told among taken.heard in
    let text : takes.0.session.text ≡ taken.answered.text = grind arith in
    let first : Tells made takes.0.session parts = grind arith in
    let rest = takings_tell made takes.0 new takings (among_rest made (outcome ∷ []) (takings_outcomes takings) all)
    first.waiting takes.1.1 in
    record { waiting = rest.waiting; sent = are_both made parts (takings_parts takings) first.sent rest.sent }

-- a slot leaves the reply, and sends it or not
slot_text : (old : SessionState) (slot : ℕ) → (after_slot old slot).text ≡ old.text
slot_text old slot = grind arith

slot_tells : (made : List Outcome) (old : SessionState) (slot : ℕ) → IsTold made old.text
    → AreReported made (slot_parts old slot)
slot_tells made old slot told = grind (arith, common_steps)

finished_text : {asks : AwaitedAnswer} {old new : SessionState} {halt : Outcome} → FinishesAs old asks halt new
    → new.text ≡ old.text
finished_text given = grind arith

comes_tells : {made : List Outcome} {old new : Stage} {round : Round} → IsTold made old.session.text
    → ComesAs old round new → Tells made new.session round.due
comes_tells told BytesCame = record { waiting = told; sent = tt }
comes_tells {made} {old} told (SlotCame {slot = slot} finishes) =
    grind (arith, finished_text finishes, slot_text old.session slot, slot_tells made old.session slot told)

-- a round, and rounds
round_tells : (made : List Outcome) (old new : Stage) (round : Round) → AreAmong made (round_outcomes round)
    → IsTold made old.session.text → Runs old round new → Tells made new.session (round_parts round)
round_tells made old new round all told runs =
    let first = comes_tells told (comes_as round runs.comes) in
    let rest = takings_tell made runs.opened new round.takings
    (among_rest made (round.halt ∷ []) (takings_outcomes round.takings) all) first.waiting runs.takes in
    record {
      waiting = rest.waiting;
      sent = are_both made round.due (takings_parts round.takings) first.sent rest.sent;
    }

rounds_tell : (made : List Outcome) (old new : Stage) (rounds : List Round) → AreAmong made (rounds_outcomes rounds)
    → IsTold made old.session.text → RunsAll old rounds new → Tells made new.session (rounds_parts rounds)
rounds_tell made old new [] all told runs = grind (arith, common_steps)
rounds_tell made old new (round ∷ rounds) all told runs =
    let first = round_tells made old runs.0 round
    (among_first made (round_outcomes round) (rounds_outcomes rounds) all) told
    runs.1.0 in
    let rest = rounds_tell made runs.0 new rounds (among_rest made (round_outcomes round) (rounds_outcomes rounds) all)
    first.waiting runs.1.2 in
    record {
      waiting = rest.waiting;
      sent = are_both made (round_parts round) (rounds_parts rounds) first.sent rest.sent;
    }

-- how a connection ended, from a stage on and after so many events
pub record CourseEnd (old : Stage) (ending : Ending) : Type 0 where
  pub count : ℕ
  pub end : ConnEnd
  pub new : Stage
  pub ends : Ends old count ending end new

-- the last round
ending_tells : {made : List Outcome} {old : Stage} (ending : Ending) → AreAmong made (ending_outcomes ending)
    → IsTold made old.session.text → CourseEnd old ending → AreReported made (rounds_parts (ending_rounds ending))
ending_tells {made} {old} (AtElement round) all told ended =
    are_both made (round_parts round) [] (round_tells made old ended.new round all told ended.ends.0).sent tt
ending_tells {made} {old} (InReply round message outcome front) all told ended =
    let among = among_first made (round_outcomes round) (outcome ∷ []) all in
    are_both made (round_parts round) []
    (round_tells made old ended.ends.1.mid round among told ended.ends.1.runs).sent tt
ending_tells _ all told ended = tt

pub parts-more : (rounds more : List Round) → rounds_parts (rounds ++ more) ≡ rounds_parts rounds ++ rounds_parts more
parts-more = joined-append round_parts rounds_parts refl (λ x xs. refl)

no_digits : (a b c : ℕ) → [] ≡ a ∷ b ∷ c ∷ [] → ⊥
no_digits a b c same = cc

nothing_told : {made : List Outcome} → IsTold made []
unfolding digits
nothing_told = record { overflow = λ is. absurd (no_digits 52 53 51 is); full = λ is. absurd (no_digits 53 48 51 is) }

-- an entire course, from a session without a text
pub course_tells : {end : ConnEnd} {old new : Observed} → old.stage.session.text ≡ [] → (c : HasCourse end old new)
    → AreReported (rounds_outcomes c.rounds ++ ending_outcomes c.ending)
    (rounds_parts (c.rounds ++ ending_rounds c.ending))
course_tells {end} {old} {new} none c =
    let made : List Outcome = rounds_outcomes rounds ++ ending_outcomes ending in
    let first = rounds_tell made old.stage mid rounds
    (Contains-append_left (rounds_outcomes rounds) (ending_outcomes ending)) (rw none nothing_told) runs in
    let last = ending_tells ending (Contains-append_right (rounds_outcomes rounds) (ending_outcomes ending))
    first.waiting (record { count = length rounds; end = end; new = new.stage; ends = ends }) in
    subst (AreReported made) (sym (parts-more rounds (ending_rounds ending)))
    (are_both made (rounds_parts rounds) (rounds_parts (ending_rounds ending)) first.sent last)
  where
    open c use {mid, rounds, runs, ending, ends}
