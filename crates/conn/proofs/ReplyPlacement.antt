-- Lemmas on where replies stand among a film's frames and reports.
use Rattle.std.proofs.lemmas.Grind.{common_steps}
use Rattle.std.proofs.Common.{◌≡◌, ℕ, ◌+◌, ◌-◌, ◌++◌, Bool, true, if◌then◌else◌, List, [], ◌∷◌, length, refl, ap, sym}
use Rattle.std.proofs.Common.{◌∙◌, subst, arith}
use Rattle.std.proofs.lemmas.List.{append_assoc, length-append}
use Rattle.film_frames.specs.Tracks.{IsBoundary}
use Rattle.pacer.specs.PacerStates.{IsPacerState, PacerState, first_slots, plan_bytes, at_slot, stands_at_boundary}
use Rattle.pacer.specs.PacerStates.{step_end, after_step}
use Rattle.pacer.proofs.SendLemmas.{between-length}
use Rattle.session.specs.declared.states.Play.{Play as Played}
use Rattle.film_streams.specs.declared.setups.Setup.{Setup}
use Rattle.session.specs.declared.states.State.{State}
use Rattle.session.specs.declared.states.State.TheVariants.{Playing}
use Rattle.session.specs.SlotSteps.{is_between, step_bytes, stepped_in}
use Rattle.session.specs.SessionStates.{SessionState}
use Rattle.conn.specs.InputSteps.{SentPart, Film, Text, Stage, ElementStep, Passed, Answered, TakesAll, due_parts}
use Rattle.conn.specs.InputSteps.{film_bytes, reply_parts}
use Rattle.conn.specs.EventSteps.{Round, Runs, RunsAll, round_outcomes, rounds_outcomes, takings_outcomes}
use Rattle.conn.specs.Films.{HaveNoHalt, GoesOn, HasSent, HasSentOn, StandBetween, PlaySpan, round_parts, rounds_parts}
use Rattle.conn.specs.Films.{takings_parts}
use Rattle.conn.proofs.FilmBytes.{next_of_sent, stopped_is}
use Rattle.conn.proofs.PlayProgress.{comes_on, going_left, going_on, heard_left, round_on, span_going, taking_left}
use Rattle.conn.proofs.PlayProgress.{takes_left, unhalted}
use Rattle.conn.proofs.EventPremises.{PlayGoing}
use Rattle.conn.proofs.StationAnswers.{ComesAs, comes_as}

-- as many bytes were sent as the plan has up to the latest slot
pub film_count : (play : Played) (heard : ℕ) (film : List ℕ) → HasSent play heard film
    → length film ≡ first_slots play.pacer.plan (heard + 1 - play.start)
film_count play heard film has = grind (arith, common_steps)

-- what was sent of a play ends where its film does
sent_place : (play : Played) (heard : ℕ) (film : List ℕ) → HasSent play heard film
    → play.pacer.before + length film ≡ play.pacer.before + play.pacer.sent
sent_place play heard film has = grind (arith, common_steps)

-- a pacing that stands at a boundary
pub boundary_here : (p : PacerState) → IsPacerState p → stands_at_boundary p ≡ true → IsBoundary p.pieces (p.before +
    p.sent)
boundary_here p is stands = grind (arith, next_of_sent p is)

-- as far as a step with a stop goes
stopped_place : (slot : ℕ) (p : PacerState) → IsPacerState p
    → (p.before + p.sent) + length (plan_bytes p p.sent (step_end true (at_slot slot p)))
    ≡ p.before + (after_step true slot p).sent
stopped_place slot p is = grind (arith, next_of_sent p is, between-length)

stand-append : (pieces : List (List ℕ)) (place next : ℕ) (xs ys : List SentPart)
    → next ≡ place + length (film_bytes xs) → StandBetween pieces place xs → StandBetween pieces next ys
    → StandBetween pieces place (xs ++ ys)
stand-append pieces place next [] ys is first second = subst (λ n. StandBetween pieces n ys) (omega (arith, is)) second
stand-append pieces place next (Film bytes ∷ xs) ys is first second =
    stand-append pieces (place + length bytes) next xs ys (omega (arith, is, length-append bytes (film_bytes xs))) first
    second
stand-append pieces place next (Text text ∷ xs) ys is first second =
    (first.0, stand-append pieces place next xs ys is first.1 second)

-- these parts stand between the frames and reports of a play that goes on
abbrev StandIn : {session : SessionState} → PlayGoing session → List SentPart → Type 0
StandIn going parts = StandBetween going.play.pacer.pieces (going.play.pacer.before + length going.film) parts

-- where a reply stands in a slot, if any does
parts_stand : (waits between : Bool) (pieces : List (List ℕ)) (place : ℕ) (front rest plain text : List ℕ)
    → (between ≡ true → IsBoundary pieces (place + length front)) → StandBetween pieces place
    (if waits then Film front ∷ (if between then Text text ∷ Film rest ∷ [] else []) else Film plain ∷ [])
parts_stand waits between pieces place front rest plain text given = grind arith

due_stand : (session : SessionState) (slot : ℕ) (going : PlayGoing session) → StandIn going (due_parts session slot)
due_stand session slot going =
    let p = going.play.pacer in
    let place : ℕ = p.before + length going.film in
    let State' : State → Type 0 =
    λ st. (is_between (stepped_in true slot st) ≡ true → IsBoundary p.pieces (place + length (step_bytes true slot st)))
    in
    let stands : State' (Playing going.setup going.play) = search (
      sent_place going.play session.heard going.film going.sent,
      stopped_place slot p going.sent.pacing,
      stopped_is slot p going.sent.pacing,
      boundary_here,
    ) in
    parts_stand session.waits _ p.pieces place _ _ _ _ (subst State' (sym going.state) stands)

none_stand : (goes : Bool) (pieces : List (List ℕ)) (place : ℕ) (parts : List SentPart)
    → (goes ≡ true → StandBetween pieces place parts) → StandBetween pieces place (if goes then parts else [])
none_stand goes pieces place parts given = grind arith

comes_stand : {old new : Stage} {round : Round} → ComesAs old round new → (going : PlayGoing old.session)
    → StandIn going round.due
comes_stand given going = grind (arith, none_stand, due_stand)

-- a reply's part
reply_stands : (session : SessionState) (going : PlayGoing session) → StandIn going (reply_parts session)
reply_stands session going = grind (arith, sent_place going.play session.heard going.film going.sent, boundary_here)

pub film_bytes-append : (xs ys : List SentPart) → film_bytes (xs ++ ys) ≡ film_bytes xs ++ film_bytes ys
film_bytes-append [] ys = refl
film_bytes-append (Film bytes ∷ xs) ys =
    ap (λ bs. bytes ++ bs) (film_bytes-append xs ys) ∙ sym (append_assoc bytes (film_bytes xs) (film_bytes ys))
film_bytes-append (Text text ∷ xs) ys = film_bytes-append xs ys

pub takings_film : (old new : Stage) (takings : List ElementStep) → TakesAll old takings new
    → film_bytes (takings_parts takings) ≡ []
takings_film old new [] takes = refl
takings_film old new (Passed n ∷ takings) takes = takings_film takes.0 new takings takes.1.1
takings_film old new (Answered message outcome parts ∷ takings) takes = search
    (arith, takings_film takes.0 new takings takes.1.1)

takes_stand : (old new : Stage) (takings : List ElementStep) → TakesAll old takings new
    → HaveNoHalt (takings_outcomes takings) → (going : PlayGoing old.session) → StandIn going (takings_parts takings)
takes_stand old new [] takes free going = tt
takes_stand old new (Passed n ∷ takings) takes free going =
    takes_stand takes.0 new takings takes.1.1 free
    (going_left going (taking_left old takes.0 (Passed n) takes.1.0 tt going))
takes_stand old new (Answered message outcome parts ∷ takings) takes free going =
    let taken = takes.1.0 in
    let left = taking_left old takes.0 (Answered message outcome parts) taken (free.0, tt) going in
    let none : film_bytes parts ≡ [] = grind arith in
    let heard = heard_left taken.heard free.0 going in
    stand-append _ _ _ parts (takings_parts takings) (omega (arith, ap length none))
    (rw taken.parts_are (reply_stands taken.answered (going_left going heard)))
    (takes_stand takes.0 new takings takes.1.1 free.1 (going_left going left))

-- what stands in a play once more of it was sent stands in it as it was
stand_on : {setup : Setup} {play : Played} {session : SessionState} (film more : List ℕ) (parts : List SentPart)
    (on : HasSentOn setup play session (film ++ more)) → StandIn (going_on on) parts
    → StandBetween play.pacer.pieces (play.pacer.before + length film + length more) parts
stand_on {play = play} film more parts on stands = grind (arith, common_steps)

round_stands : {old new : Stage} {round : Round} → Runs old round new → HaveNoHalt (round_outcomes round)
    → (going : PlayGoing old.session) → StandIn going (round_parts round)
round_stands {new = new} {round} runs free going =
    let comes = comes_as round runs.comes in
    let on = comes_on comes free.0 going in
    stand-append _ _ _ round.due (takings_parts round.takings) refl (comes_stand comes going)
    (stand_on going.film (film_bytes round.due) (takings_parts round.takings) on
    (takes_stand runs.opened new round.takings runs.takes free.1 (going_on on)))

-- while a play goes on, each reply stands between frames and reports
pub rounds_stand : (old new : Stage) (rounds : List Round) → RunsAll old rounds new
    → HaveNoHalt (rounds_outcomes rounds) → (going : PlayGoing old.session) → StandIn going (rounds_parts rounds)
rounds_stand old new [] runs free going = tt
rounds_stand old new (round ∷ rounds) runs free going =
    let each = unhalted (round_outcomes round) (rounds_outcomes rounds) free in
    let on = round_on runs.1.0 each.0 going in
    let pieces = going.play.pacer.pieces in
    let place : ℕ = going.play.pacer.before + length going.film in
    let film_is : length (film_bytes (round_parts round))
    ≡ length (film_bytes round.due) = search (arith, takings_film) in
    stand-append pieces place (place + length (film_bytes round.due)) (round_parts round) (rounds_parts rounds)
    (omega (arith, film_is)) (round_stands runs.1.0 each.0 going)
    (stand_on going.film (film_bytes round.due) (rounds_parts rounds) on
    (rounds_stand runs.0 new rounds runs.1.2 each.1 (going_on on)))

-- from a play's beginning on
pub replies_stand : (s : PlaySpan) → GoesOn s → StandBetween s.play.pacer.pieces (s.play.pacer.before + length s.film)
    (takings_parts s.takings ++ rounds_parts s.rounds)
replies_stand s on =
    let each = unhalted (takings_outcomes s.takings) (rounds_outcomes s.rounds) on.unhalted in
    let going : PlayGoing s.old.session = span_going s on in
    let place : ℕ = s.play.pacer.before + length s.film in
    stand-append s.play.pacer.pieces place place (takings_parts s.takings) (rounds_parts s.rounds)
    (omega (arith, ap length (takings_film s.old on.mid s.takings on.takes)))
    (takes_stand s.old on.mid s.takings on.takes each.0 going)
    (rounds_stand on.mid s.new s.rounds on.runs each.1
    (going_left going (takes_left s.old on.mid s.takings on.takes each.0 going)))
