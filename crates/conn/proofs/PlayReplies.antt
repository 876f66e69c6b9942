-- A PLAY to which no refusal applies is answered by what the station made of it, as its turn at the
-- station says.
use Rattle.std.proofs.lemmas.Grind.{common_steps}
use Rattle.std.proofs.Common.{◌≡◌, ℕ, ◌-◌, List, [], ◌∷◌, take, refl, sym, ap, subst, ◌∙◌, inl, inr, arith}
use Rattle.std.specs.Fmt.{digits}
use Rattle.rtsp_text.specs.Replies.{reply_front, reply_text, status_line}
use Rattle.plan_cert.specs.declared.Segment.{Segment}
use Rattle.slot_calendar.specs.declared.calendar.Overflow.{Overflow as Over}
use Rattle.slot_calendar.proofs.FirstOverflow.{no-room, overflow-once}
use Rattle.admission.specs.declared.entries.Answer.{Answer}
use Rattle.admission.specs.declared.entries.Answer.TheVariants.{Admitted, Overflow}
use Rattle.admission.specs.declared.entries.Entry.{Entry}
use Rattle.admission.specs.Histories.{IsLegal, state_after}
use Rattle.admission.specs.Machine.{State as MachineState, IsAnswer}
use Rattle.admission.specs.Makers.{PlacedEntry}
use Rattle.station.specs.Ledgers.{play_of}
use Rattle.session.specs.declared.commands.Ask.{Ask}
use Rattle.session.specs.declared.commands.Ask.TheVariants.{Reply as AskReply, Play as AskPlay}
use Rattle.session.specs.RequestEffects.{CanBePlayed, ChangesState, HasCode, IsPlayAsked, LacksMemory}
use Rattle.rtsp_replies.specs.Replies.{full_text, overflow_text, started_text}
use Rattle.session.specs.Methods.{play_front}
use Rattle.session.specs.SessionStates.{SessionState, sequence_of}
use Rattle.session.proofs.RequestEffectLemmas.{hears_good, hears_ground, hears_state}
use Rattle.conn.specs.InputSteps.{Outcome, Entered, HasHeard, IsAskAnswered}
use Rattle.conn.specs.Films.{ReportsOverflow}
use Rattle.conn.specs.Admissions.{HasTurn, IsDecided, IsEntryReplied, IsPlayCompleted, IsPlayReplied}
use Rattle.conn.specs.Journals.{AgreeWith, HasRoomAt, IsFullIn, StandsIn, Terms}
use Rattle.conn.proofs.PlayStart.{play_begins}
use Rattle.conn.proofs.StationAnswers.{AnswersAs, answers_as, NoneAsked, PlayAdmitted, PlayOverflowed, PlayFull}

-- the reply to a play begins with 200, and the reply to one that runs out of memory has 500
front_ok : (old asking : SessionState) (is : IsPlayAsked old asking) (slots : ℕ) →
    HasCode 200 (started_text (play_front old is.stored is.setup is.planned is.sequence is.authority) slots)
unfolding reply_front status_line digits
front_ok old asking is slots = refl

memory_code : (old : SessionState) (ask : Ask) (asking : SessionState) → LacksMemory old ask asking → HasCode 500
    asking.text
unfolding reply_text reply_front status_line digits
memory_code old ask asking lacks = subst (HasCode 500) (sym (ap (λ (s : SessionState). s.text) lacks.refused.1)) refl

-- a session asked the station for a play, and is else as it was
pub record AsksPlay (old asking : SessionState) : Type 0 where
  pub asked : IsPlayAsked old asking
  pub same : asking.state ≡ old.state
  pub heard : asking.heard ≡ old.heard

-- its plan
abbrev plan_of : {old asking : SessionState} → AsksPlay old asking → List Segment
plan_of play = play.asked.planned.plan

asked_replied : {old asking new : SessionState} {outcome : Outcome} (play : AsksPlay old asking)
    → AnswersAs asking (AskPlay (plan_of play)) outcome new → IsPlayReplied old outcome new
asked_replied {old} {asking} {new} play (PlayAdmitted {placed = placed} {start = start} entry answered) =
    let is = play.asked in
    let begun = play_begins asking placed (search arith) answered in
    let text = ap (λ (t : List ℕ). started_text t (start - asking.heard)) is.text in
    subst (λ a. IsEntryReplied old placed a new) (sym entry.answer_is) (record {
      ok = subst (HasCode 200) (sym text) (front_ok old asking is (start - asking.heard));
      asking = asking;
      asked = is;
      command = entry.command ∙ ap (λ h. play_of h (plan_of play)) play.heard;
      play = begun.play;
      state = begun.state;
      run = begun.run;
      plan = begun.plan;
      place_is = begun.place_is;
      start_is = begun.start_is;
      sent = begun.sent;
    })
asked_replied {old} {asking} {new} play (PlayOverflowed {placed = placed} entry) = grind arith
asked_replied {asking = asking} play (PlayFull two) = (sequence_of asking.awaited, refl)

-- where memory was wanting the station isn't asked
lacks_both : {asking new : SessionState} {outcome : Outcome} (old : SessionState) → HasCode 500 asking.text
    → AnswersAs asking AskReply outcome new → IsPlayReplied old outcome new × IsPlayCompleted old outcome new
lacks_both old code NoneAsked = (code, λ terms journal from legal agree. inr (refl, code))

-- a legal journal, from a place on
record LegalJournal : Type 0 where
  terms : Terms
  journal : List Entry
  from : ℕ
  legal : IsLegal terms.steps journal

-- the turn of a play that was entered: the machine's answer in the state after the entries before it
entry_turn : {old asking new : SessionState} {placed : PlacedEntry} (play : AsksPlay old asking) (j : LegalJournal)
    → StandsIn j.terms j.journal j.from placed → placed.entry.command ≡ play_of asking.heard (plan_of play)
    → IsPlayReplied old (Entered placed) new → HasTurn j.terms j.journal j.from old new
entry_turn {old} {asking} {new} {placed} play j stands command replied = record {
  asking = asking;
  asked = play.asked;
  turn = placed.place;
  after = stands.after;
  within = omega (arith, stands.within);
  decided = by-answer placed.entry.answer
      (rw (stands.entry placed.entry, asks) at (legal.each placed.place placed.entry stands.within)) replied;
}
  where
    open j use {terms, journal, legal}

    asks : placed.entry.command ≡ play_of old.heard (plan_of play)
    asks = command ∙ ap (λ h. play_of h (plan_of play)) play.heard

    room : HasRoomAt terms journal placed.place 2
    room = search arith

    state : MachineState
    state = state_after (take placed.place journal)

    by-answer : (answer : Answer) → IsAnswer terms.steps state (play_of old.heard (plan_of play)) answer
        → IsEntryReplied old placed answer new → IsDecided terms journal old (plan_of play) placed.place new
    by-answer (Admitted start) is replied =
        record {
          full = λ no. absurd (omega (arith, no, room));
          over = λ has over first. absurd (no-room first (rw is.0 at is.1));
          admitted = λ has all. (placed, rw is.0 at replied);
        }
    by-answer (Overflow slot bytes asked) is replied =
        let found : Over = record { slot = slot; booked = bytes; asked = asked } in record {
          full = λ no. absurd (omega (arith, no, room));
          over = λ has over first.
              let same : found ≡ over = overflow-once is first in (
                replied.0,
                subst (λ (o : Over). new.text ≡ overflow_text replied.0 o.slot o.booked o.asked)
                    same replied.1,
              );
          admitted = λ has all. absurd (no-room is all);
        }
    by-answer _ is replied = absurd is

-- the turn of one for which the journal is full, as its two numbers say
full_turn : {old asking new : SessionState} {entries live : ℕ} (play : AsksPlay old asking) (j : LegalJournal)
    → IsFullIn j.terms.limit j.journal j.from 2 entries live
    → ((sequence : ℕ) × (new.text ≡ full_text sequence entries live)) → HasTurn j.terms j.journal j.from old new
full_turn {asking = asking} {entries = entries} play j full replied = record {
  asking = asking;
  asked = play.asked;
  turn = entries;
  after = full.after;
  within = full.within;
  decided = grind (arith, common_steps);
}

asked_turn : {old asking new : SessionState} {outcome : Outcome} (play : AsksPlay old asking) (j : LegalJournal)
    → AnswersAs asking (AskPlay (plan_of play)) outcome new → AgreeWith j.terms j.journal j.from (outcome ∷ [])
    → IsPlayReplied old outcome new → HasTurn j.terms j.journal j.from old new
asked_turn play j (PlayAdmitted entry answered) agree replied = entry_turn play j agree.0 entry.command replied
asked_turn play j (PlayOverflowed entry) agree replied = entry_turn play j agree.0 entry.command replied
asked_turn play j (PlayFull two) agree replied = full_turn play j (rw two at agree.0) replied

-- a PLAY to which no refusal applies asks for a play, or finds no memory
heard_both : {old new : SessionState} {message : List ℕ} {outcome : Outcome} → CanBePlayed old message
    → HasHeard old message outcome new → IsPlayReplied old outcome new × IsPlayCompleted old outcome new
heard_both {old} {new} {message} {outcome} can heard =
    let asking = heard.asking in
    let changes = hears_state old asking message heard.ask heard.hears in
    let answers : AnswersAs asking heard.ask outcome new = answers_as heard.ask outcome heard.answered in
    elim (hears_good old asking message heard.ask heard.hears can) [
      | inl asks ↦
          let play : AsksPlay old asking = record {
            asked = asks.play;
            same = (subst (λ a. ChangesState a old asking) asks.command changes).0;
            heard = (hears_ground old asking message heard.ask heard.hears).heard;
          } in
          let its : AnswersAs asking (AskPlay (plan_of play)) outcome new = rw asks.command at answers in
          let replied : IsPlayReplied old outcome new = asked_replied play its in (
            replied,
            λ terms journal from legal agree.
                inl (asked_turn play
                (record { terms = terms; journal = journal; from = from; legal = legal }) its agree replied),
          )
      | inr lacks ↦ lacks_both old (memory_code old heard.ask asking lacks) (rw lacks.refused.0 at answers)
    ]

pub play_answered : (old new : SessionState) (message : List ℕ) (outcome : Outcome) → CanBePlayed old message →
    HasHeard old message outcome new → IsPlayReplied old outcome new
play_answered old new message outcome can heard = (heard_both can heard).0

pub play_completed : (old new : SessionState) (message : List ℕ) (outcome : Outcome) → CanBePlayed old message →
    HasHeard old message outcome new → IsPlayCompleted old outcome new
play_completed old new message outcome can heard = (heard_both can heard).1

pub overflow_told : {old new : SessionState} {plan : List Segment} {placed : PlacedEntry} {over : Over} →
    IsAskAnswered old (AskPlay plan) (Entered placed) new →
    placed.entry.answer ≡ Overflow over.slot over.booked over.asked → ReportsOverflow old plan placed over new
overflow_told {old} {new} {placed} {over} answered is = grind arith
