-- Lemmas on a play that goes on, one event after another.
use Rattle.std.proofs.Common.{arith, ◌≡◌, ℕ, ◌^◌, ◌<◌, ◌++◌, ◌&&◌, Bool, true, false, if◌then◌else◌, nat_lt, nat_le}
use Rattle.std.proofs.Common.{List, [], ◌∷◌, refl, ap, sym, ◌∙◌, subst}
use Rattle.std.proofs.lemmas.Grind.{common_steps}
use Rattle.std.proofs.lemmas.Bool.{and_parts, ltb-true, true≢false}
use Rattle.std.proofs.lemmas.List.{append-nil, append_assoc}
use Rattle.pacer.specs.PacerStates.{PacerState, plan_bytes, at_slot, step_end, after_step}
use Rattle.session.specs.declared.commands.Ask.{Ask}
use Rattle.session.specs.declared.states.Play.{Play as Played}
use Rattle.film_streams.specs.declared.setups.Setup.{Setup}
use Rattle.session.specs.declared.states.State.{State}
use Rattle.session.specs.declared.states.State.TheVariants.{Playing}
use Rattle.session.specs.SlotSteps.{can_reply, due_state, after_play, is_between, is_sending, is_taken, sent_due}
use Rattle.session.specs.SlotSteps.{sent_reply, sent_slot, after_slot, step_bytes, stepped_in}
use Rattle.session.specs.SessionStates.{AwaitedAnswer, SessionState}
use Rattle.session.specs.SlotTransitions.{after_stop}
use Rattle.conn.specs.InputSteps.{Outcome, SentPart, Film, Text, Stage, ElementStep, Passed, Answered, Takes, HasHeard}
use Rattle.conn.specs.InputSteps.{TakesAll, after_reply, due_parts, film_bytes, slot_parts}
use Rattle.conn.specs.EventSteps.{Round, Runs, RunsAll, round_outcomes, rounds_outcomes, taking_outcomes}
use Rattle.conn.specs.EventSteps.{takings_outcomes}
use Rattle.conn.specs.Films.{HaveNoHalt, GoesOn, HasSent, HasSentOn, IsSamePlay, IsNoHalt, HasNoHalt, PlaySpan}
use Rattle.conn.specs.Films.{rounds_film}
use Rattle.session.specs.Laws.{AsksNoHalt}
use Rattle.session.proofs.RefusalEffectLemmas.{hears_plays}
use Rattle.conn.proofs.FilmBytes.{sent_slot as sent_by, sent_through, slot_film, slot_is, slot_pacing}
use Rattle.conn.proofs.EventPremises.{PlayGoing}
use Rattle.conn.proofs.StationAnswers.{AnswersAs, ComesAs, FinishesAs, answers_as, comes_as, BytesCame, SlotCame}
use Rattle.conn.proofs.StationAnswers.{PlayAdmitted, PlayHalted}

finished_same : {asks : AwaitedAnswer} {old new : SessionState} {halt : Outcome} → FinishesAs old asks halt new
    → HasNoHalt halt → new ≡ old
finished_same given given' = grind arith

-- the state and the latest slot, after a slot that is processed
pub reply_state : (goes : Bool) (s : SessionState)
    → (if goes then sent_reply s else s).state ≡ (if goes then after_stop s.state else s.state)
reply_state goes s = grind arith

pub reply_heard : (goes : Bool) (s : SessionState) → (if goes then sent_reply s else s).heard ≡ s.heard
reply_heard goes s = grind arith

-- what is sent by a pacing in a slot, around a reply that waits
abbrev pub parts_in : Bool → Bool → PacerState → ℕ → List ℕ → List SentPart
parts_in waits between p slot text =
    if waits then Film (plan_bytes p p.sent (step_end true (at_slot slot p)))
    ∷ (if between
    then Text text
    ∷ Film (plan_bytes (after_step true slot p) (after_step true slot p).sent
    (step_end false (at_slot slot (after_step true slot p)))) ∷ [] else [])
    else Film (plan_bytes p p.sent (step_end false (at_slot slot p))) ∷ []

-- the film's bytes of such parts
pub pacer_film : (waits between : Bool) (front rest plain text : List ℕ)
    → film_bytes (if waits then Film front ∷ (if between then Text text ∷ Film rest ∷ [] else []) else Film plain ∷ [])
    ≡ (if waits then front ++ (if between then rest else []) else plain)
pacer_film waits between front rest plain text = grind (arith, common_steps)

abbrev pub state_after_slot : Bool → State → ℕ → State
state_after_slot waits state slot =
    if waits && is_between (stepped_in true slot state) then after_stop (due_state waits state slot)
    else due_state waits state slot

abbrev pub parts_of : Bool → State → List ℕ → ℕ → List SentPart
parts_of waits state text slot =
    if waits then Film (step_bytes true slot state)
    ∷ (if is_between (stepped_in true slot state)
    then Text text ∷ Film (step_bytes false slot (stepped_in true slot state)) ∷ [] else [])
    else Film (step_bytes false slot state) ∷ []

-- a play is the same whatever its pacing has sent
same_play : {play : Played} {due passed sent : ℕ}
    → IsSamePlay (record play { pacer = record play.pacer { due = due; passed = passed; sent = sent } }) play
same_play = record { run = refl; place = refl; start = refl; plan = refl; before = refl; pieces = refl; paced = refl }

-- a play goes on by a slot that is processed
pub taken_slot : (old : SessionState) (slot : ℕ) (going : PlayGoing old) → old.heard < slot →
    HasSentOn going.setup going.play (after_play (sent_slot old slot)) (going.film ++ film_bytes (due_parts old slot))
taken_slot old slot going later =
    let goes : Bool = old.waits && is_between (stepped_in true slot old.state) in
    let now : Played = record play { pacer = slot_pacing old.waits slot play.pacer } in
    let heard : (sent_slot old slot).heard ≡ slot = reply_heard goes (sent_due old slot) in
    let bytes : film_bytes (due_parts old slot) ≡ slot_film old.waits slot play.pacer =
    rw state (pacer_film old.waits _ _ _ _ _) in
    let through : slot_pacing old.waits slot play.pacer ≡ sent_through slot play.pacer = search slot_is in
    record {
      now = now;
      state = grind arith;
      same = subst (λ q. IsSamePlay (record play { pacer = q }) play) (sym through) same_play;
      sent = rw (heard, bytes) (sent_by going slot later);
    }
  where
    open going use {setup, play, film, state, sent}

-- nothing is sent: the play goes on as it was
pub as_it_was : {session : SessionState} (going : PlayGoing session)
    → HasSentOn going.setup going.play session going.film
as_it_was going = record { now = going.play; state = going.state; same = same_play; sent = going.sent }

-- what holds of a session that isn't sending too
pub slot_any : (P : SessionState → Type 0) (old : SessionState) (slot : ℕ)
    → (is_sending old.state ≡ true → P (after_play (sent_slot old slot))) → P (record old { heard = slot }) → P old
    → P (after_slot old slot)
slot_any P old slot goes stays same = grind arith

pub later_slot : (old : SessionState) (slot : ℕ) → is_taken old slot ≡ true → old.heard < slot
later_slot old slot taken = ltb-true old.heard slot (and_parts (nat_lt old.heard slot) (nat_le slot (2 ^ 62)) taken).0

-- what holds of a session that sends, and of what it sent in a slot: the slot came before, or it is taken
pub slot_sends : (P : SessionState → List SentPart → Type 0) (old : SessionState) (slot : ℕ)
    → is_sending old.state ≡ true
    → (old.heard < slot → P (after_play (sent_slot old slot)) (due_parts old slot)) → P old []
    → P (after_slot old slot) (slot_parts old slot)
slot_sends P old slot sends goes stays =
    by-case (is_taken old slot) (is_sending old.state) sends (λ taken. goes (later_slot old slot taken))
  where
    by-case : (taken sending : Bool) → sending ≡ true
        → (taken ≡ true → P (after_play (sent_slot old slot)) (due_parts old slot))
        → P (if taken then (if sending then after_play (sent_slot old slot) else record old { heard = slot }) else old)
        (if taken && sending then due_parts old slot else [])
    by-case false sending sends goes = stays
    by-case true true sends goes = goes refl
    by-case true false sends goes = absurd (true≢false (sym sends))

-- a play goes on by a slot
pub slot_play : (old : SessionState) (slot : ℕ) (going : PlayGoing old) →
    HasSentOn going.setup going.play (after_slot old slot) (going.film ++ film_bytes (slot_parts old slot))
slot_play old slot going = slot_sends
    (λ s parts. HasSentOn going.setup going.play s (going.film ++ film_bytes parts)) old
    slot (ap is_sending going.state) (taken_slot old slot going) (rw append-nil (as_it_was going))

-- a play that goes on, and what is sent of it from then on
abbrev pub going_on : {setup : Setup} {play : Played} {session : SessionState} {film : List ℕ}
    → HasSentOn setup play session film → PlayGoing session
going_on {setup} {film = film} on =
    record { setup = setup; play = on.now; film = film; state = on.state; sent = on.sent }

goes_on : {setup : Setup} {play : Played} {mid new : SessionState} {film more : List ℕ}
    (on : HasSentOn setup play mid film) → HasSentOn setup on.now new more → HasSentOn setup play new more
goes_on on next = grind arith

-- what a request leaves of a play
abbrev pub IsLeft : SessionState → SessionState → Type 0
IsLeft old new = (new.state ≡ old.state) × (new.heard ≡ old.heard)

left_on : (a b c : SessionState) → IsLeft a b → IsLeft b c → IsLeft a c
left_on a b c first second = (second.0 ∙ first.0, second.1 ∙ first.1)

abbrev pub going_left : {old new : SessionState} → PlayGoing old → IsLeft old new → PlayGoing new
going_left going left = record {
  setup = going.setup;
  play = going.play;
  film = going.film;
  state = left.0 ∙ going.state;
  sent = subst (λ h. HasSent going.play h going.film) (sym left.1) going.sent;
}

asks_no_halt : {old new : SessionState} {ask : Ask} {outcome : Outcome} → HasNoHalt outcome
    → AnswersAs old ask outcome new → AsksNoHalt ask
asks_no_halt given given' = grind arith

pub heard_left : {old new : SessionState} {message : List ℕ} {outcome : Outcome} → HasHeard old message outcome new
    → HasNoHalt outcome → PlayGoing old → IsLeft old new
heard_left {old} {new} {message} {outcome} heard free going =
    let answers : AnswersAs s heard.ask outcome new = answers_as heard.ask outcome heard.answered in
    let plays = hears_plays (record { old = old; new = s; message = message; ask = heard.ask; hears = heard.hears })
    going.setup going.play going.state (asks_no_halt free answers) in
    let asking : IsLeft old s = (plays.state, plays.heard) in
    left_on old s new asking (by-answer (asking.0 ∙ going.state) free answers)
  where
    s : SessionState
    s = heard.asking

    by-answer : {ask : Ask} {outcome : Outcome} {new : SessionState} → s.state ≡ Playing going.setup going.play
        → HasNoHalt outcome → AnswersAs s ask outcome new → IsLeft s new
    by-answer state free (PlayAdmitted {placed = placed} {start = start} entry answered) = search arith
    by-answer state free (PlayHalted entry) = absurd (subst IsNoHalt entry.command free)
    by-answer state free _ = (refl, refl)

reply_left : {s : SessionState} (goes : Bool) → PlayGoing s → IsLeft s (if goes then sent_reply s else s)
reply_left goes given = grind arith

pub taking_left : (old new : Stage) (taking : ElementStep) → Takes old taking new
    → HaveNoHalt (taking_outcomes taking) → PlayGoing old.session → IsLeft old.session new.session
taking_left old new (Passed n) takes free going = grind arith
taking_left old new (Answered message outcome parts) takes free going =
    let heard = heard_left takes.heard free.0 going in
    rw takes.new_is (left_on old.session takes.answered (after_reply takes.answered) heard
    (reply_left (can_reply takes.answered) (going_left going heard)))

pub unhalted : (xs ys : List Outcome) → HaveNoHalt (xs ++ ys) → HaveNoHalt xs × HaveNoHalt ys
unhalted [] ys free = (tt, free)
unhalted (x ∷ xs) ys free = let rest = unhalted xs ys free.1 in ((free.0, rest.0), rest.1)

pub takes_left : (old new : Stage) (takings : List ElementStep) → TakesAll old takings new
    → HaveNoHalt (takings_outcomes takings) → PlayGoing old.session → IsLeft old.session new.session
takes_left old new [] takes free going = rw takes (refl, refl)
takes_left old new (taking ∷ takings) takes free going =
    let first : IsLeft old.session takes.0.session =
    taking_left old takes.0 taking takes.1.0
    (unhalted (taking_outcomes taking) (takings_outcomes takings) free).0 going in
    left_on old.session takes.0.session new.session first
    (takes_left takes.0 new takings takes.1.1
    (unhalted (taking_outcomes taking) (takings_outcomes takings) free).1 (going_left going first))

pub comes_on : {old new : Stage} {round : Round} → ComesAs old round new → HasNoHalt round.halt
    → (going : PlayGoing old.session)
    → HasSentOn going.setup going.play new.session (going.film ++ film_bytes round.due)
comes_on {old} BytesCame free going = grind (arith, common_steps)
comes_on {old} (SlotCame {slot = slot} finishes) free going =
    grind (arith, finished_same finishes free, slot_play old.session slot going)

pub round_on : {old new : Stage} {round : Round} → Runs old round new → HaveNoHalt (round_outcomes round)
    → (going : PlayGoing old.session)
    → HasSentOn going.setup going.play new.session (going.film ++ film_bytes round.due)
round_on {new = new} {round} runs free going =
    grind (arith, comes_on (comes_as round runs.comes) free.0 going, takes_left)

-- a play goes on by events, as long as it isn't halted
pub rounds_on : (old new : Stage) (rounds : List Round) → RunsAll old rounds new → HaveNoHalt (rounds_outcomes rounds)
    → (going : PlayGoing old.session) → HasSentOn going.setup going.play new.session (going.film ++ rounds_film rounds)
rounds_on old new [] runs free going = grind (arith, common_steps)
rounds_on old new (round ∷ rounds) runs free going =
    let each = unhalted (round_outcomes round) (rounds_outcomes rounds) free in
    let first = round_on runs.1.0 each.0 going in
    let rest = rounds_on runs.0 new rounds runs.1.2 each.1 (going_on first) in
    rw append_assoc at (goes_on first rest)

-- the play of a span as it begins
abbrev pub span_going : (s : PlaySpan) → GoesOn s → PlayGoing s.old.session
span_going s on = record { setup = on.setup; play = s.play; film = s.film; state = on.state; sent = on.sent }

-- and by what is processed before the next event
pub film_on : (s : PlaySpan) (on : GoesOn s) → HasSentOn on.setup s.play s.new.session (s.film ++ rounds_film s.rounds)
film_on s on =
    let each = unhalted (takings_outcomes s.takings) (rounds_outcomes s.rounds) on.unhalted in
    let going : PlayGoing s.old.session = span_going s on in
    rounds_on on.mid s.new s.rounds on.runs each.1
    (going_left going (takes_left s.old on.mid s.takings on.takes each.0 going))
