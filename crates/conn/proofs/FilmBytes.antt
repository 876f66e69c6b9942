-- Lemmas on what is sent of a film, one slot after another: of a play that goes on, and of the rest of
-- one that was halted, up to what the halt keeps.
use Rattle.std.proofs.lemmas.Grind.{common_steps}
use Rattle.std.proofs.Common.{◌≡◌, ℕ, ◌+◌, ◌-◌, ◌<◌, ◌≤◌, ◌++◌, Bool, true, false, if◌then◌else◌, min, max, List, []}
use Rattle.std.proofs.Common.{length, take, drop, refl, ap, sym, ◌∙◌, arith, inl, inr}
use Rattle.std.proofs.lemmas.Bool.{cases_lt, true≢false}
use Rattle.std.proofs.lemmas.List.{append-nil}
use Rattle.film_frames.specs.Tracks.{framed_bytes, IsBoundaryAfter}
use Rattle.pacer.proofs.SlotStepLemmas.{most-slots}
use Rattle.session.specs.declared.states.Play.{Play as Played}
use Rattle.conn.specs.Films.{HasSent, planned_bytes}
use Rattle.pacer.specs.Boundaries.{bytes_between, boundary_from}
use Rattle.pacer.specs.PacerStates.{IsPacerState, PacerState, due_by, first_slots, plan_bytes, at_slot, slots_by}
use Rattle.pacer.specs.PacerStates.{stands_at_boundary, step_end, after_step, next_boundary}
use Rattle.pacer.proofs.PacerStateLemmas.{boundary-from, due-of-both}
use Rattle.pacer.proofs.SendLemmas.{between-join}
use Rattle.session.proofs.StopBoundaryLemmas.{stop_between}
use Rattle.session.specs.SessionStates.{SessionState}
use Rattle.conn.proofs.EventPremises.{PlayGoing}

-- a pacing through a slot, once all that is due was sent
abbrev pub sent_through : ℕ → PacerState → PacerState
sent_through slot p = record (at_slot slot p) { sent = due_by p slot }

-- the pacing after a slot, in which a reply waits or none, and the bytes of the film that were sent in it
abbrev pub slot_pacing : Bool → ℕ → PacerState → PacerState
slot_pacing waits slot p =
    if waits then (if stands_at_boundary (after_step true slot p) then after_step false slot
    (after_step true slot p) else after_step true slot p)
    else after_step false slot p

abbrev pub slot_film : Bool → ℕ → PacerState → List ℕ
slot_film waits slot p =
    if waits then plan_bytes p p.sent (step_end true (at_slot slot p))
    ++ (if stands_at_boundary (after_step true slot p)
    then plan_bytes (after_step true slot p) (after_step true slot p).sent
    (step_end false (at_slot slot (after_step true slot p))) else [])
    else plan_bytes p p.sent (step_end false (at_slot slot p))

-- a step with a stop that ends within a frame has sent all that is due
stop_inside : (slot : ℕ) (p : PacerState) → IsPacerState p → stands_at_boundary (after_step true slot p) ≡ false
    → step_end true (at_slot slot p) ≡ due_by p slot
stop_inside slot p is inside =
    elim (cases_lt (step_end true (at_slot slot p)) (due_by p slot)) [
      | inl less ↦
          let more : 0 < (after_step true slot p).due - (after_step true slot p).sent = omega (arith, less) in
          absurd (true≢false (sym (stop_between slot p (after_step true slot p) is refl more) ∙ inside))
      | inr more ↦ grind arith
    ]

-- after a slot all that is due was sent, with a reply or none
pub slot_is : (waits between : Bool) (slot : ℕ) (p : PacerState) → IsPacerState p →
    stands_at_boundary (after_step true slot p) ≡ between →
    (if waits then (if between then after_step false slot (after_step true slot p) else after_step true slot p)
    else after_step false slot p) ≡ sent_through slot p
slot_is waits between slot p given given' = grind (arith, stop_inside)

-- what was sent of a pacing is within its pieces, whose next boundary is there
pub sent_within : (p : PacerState) → IsPacerState p → p.before + p.sent ≤ length (framed_bytes p.pieces)
sent_within p is = omega (arith, is.whole, is.most, is.due, is.sent)

pub next_of_sent : (p : PacerState) → IsPacerState p
    → IsBoundaryAfter p.pieces (p.before + p.sent) (boundary_from p.pieces (p.before + p.sent))
next_of_sent p is =
    boundary-from p.pieces (p.before + p.sent) (sent_within p is)

-- and these are its bytes
pub slot_bytes : (waits between : Bool) (slot : ℕ) (p : PacerState) → IsPacerState p →
    stands_at_boundary (after_step true slot p) ≡ between →
    (if waits then plan_bytes p p.sent (step_end true (at_slot slot p))
    ++ (if between then plan_bytes (after_step true slot p) (after_step true slot p).sent
    (step_end false (at_slot slot (after_step true slot p))) else [])
    else plan_bytes p p.sent (step_end false (at_slot slot p))) ≡ plan_bytes p p.sent (due_by p slot)
slot_bytes false between slot p is between_is = refl
slot_bytes true false slot p is between_is = search (append-nil, stop_inside)
slot_bytes true true slot p is between_is =
    let mid : ℕ = step_end true (at_slot slot p) in
    let end : step_end false (at_slot slot (after_step true slot p)) ≡ due_by p slot = grind arith in
    ap (λ n. plan_bytes p p.sent mid ++ plan_bytes p mid n) end
    ∙ between-join p.pieces (p.before + p.sent) (p.before + mid) (p.before + due_by p slot)
    (omega (arith, (next_of_sent p is).after, is.sent)) (omega arith)

-- it is a pacing again, and so it is where less of what is due was sent
pub through_is : (slot : ℕ) (p : PacerState) → IsPacerState p → IsPacerState (sent_through slot p)
through_is slot p is = search (arith, due-of-both)

pub stopped_is : (slot : ℕ) (p : PacerState) → IsPacerState p → IsPacerState (after_step true slot p)
stopped_is slot p is = search (arith, due-of-both)

-- the film bytes up to a slot, with those of the slot
film_joined : {film : List ℕ} (waits : Bool) (slot : ℕ) (p : PacerState) → IsPacerState p
    → film ≡ bytes_between p.pieces p.before (p.before + p.sent)
    → film ++ slot_film waits slot p ≡ bytes_between p.pieces p.before (p.before + due_by p slot)
film_joined waits slot p is film_is = grind (arith, slot_bytes, between-join)

-- of a play that goes on they are what its plan has
film_through : {session : SessionState} (going : PlayGoing session) (slot : ℕ)
    → due_by going.play.pacer slot ≡ first_slots going.play.pacer.plan (slot + 1 - going.play.pacer.start)
    → going.film ++ slot_film session.waits slot going.play.pacer ≡ planned_bytes going.play.pacer slot
film_through {session} going slot all_sent = search (arith, film_joined)

-- a play goes on by a slot, in which a reply waits or none
pub sent_slot : {session : SessionState} (going : PlayGoing session) (slot : ℕ) → session.heard < slot →
    HasSent (record going.play { pacer = slot_pacing session.waits slot going.play.pacer }) slot
    (going.film ++ slot_film session.waits slot going.play.pacer)
sent_slot {session} going slot later = search (arith, slot_is, most-slots, through_is, film_through)

-- A pacing of which these bytes were sent by the latest slot: as many as the plan has through it,
-- and none past what is kept, which ends at the first boundary at or after them.
pub record IsHaltedPacing (p : PacerState) (heard : ℕ) (film : List ℕ) : Type 0 where
  pub pacing : IsPacerState p
  pub passed : p.passed ≡ heard + 1 - p.start
  pub sent : p.sent ≡ min (first_slots p.plan p.passed) p.keep
  pub film_is : film ≡ bytes_between p.pieces p.before (p.before + p.sent)
  pub ends : IsBoundaryAfter p.pieces (p.before + p.sent) (p.before + p.keep)

-- a play that is halted at the end of the frame or report in hand
pub halted_here : {play : Played} {heard : ℕ} {film : List ℕ} {keep : ℕ} → HasSent play heard film →
    keep ≡ next_boundary play.pacer → IsHaltedPacing (record play.pacer { keep = keep }) heard film
halted_here {play} {heard} {film} {keep} has keep_is =
    let p = play.pacer in
    let next = next_of_sent p has.pacing in
    let place : boundary_from p.pieces (p.before + p.sent) ≡ p.before + keep = omega (arith, keep_is, next.after) in
    let after : IsBoundaryAfter p.pieces (p.before + p.sent) (p.before + keep) = grind arith in
    let count : first_slots p.plan (heard + 1 - p.start) ≡ p.before + p.sent - p.before = grind arith in
    record {
      pacing = grind arith;
      passed = has.passed ∙ ap (λ s. heard + 1 - s) (sym has.start);
      sent = omega (arith, has.sent, after.after);
      film_is = has.film_is ∙ ap (λ n. take n (drop p.before (framed_bytes p.pieces))) count;
      ends = after;
    }

-- it goes on by a slot
pub halted_on : {p : PacerState} {heard slot : ℕ} {film : List ℕ} (waits : Bool) → IsHaltedPacing p heard film →
    heard < slot → IsHaltedPacing (sent_through slot p) slot (film ++ slot_film waits slot p)
halted_on {p} {heard} {slot} {film} waits has later =
    let due : due_by p slot ≡ min (first_slots p.plan (max p.passed (slots_by p slot))) p.keep = search due-of-both in
    record {
      pacing = through_is slot p has.pacing;
      passed = omega (arith, has.passed, later);
      sent = due;
      film_is = film_joined waits slot p has.pacing has.film_is;
      ends = grind arith;
    }

-- how many bytes were sent
pub halted_count : {p : PacerState} {heard : ℕ} {film : List ℕ} → IsHaltedPacing p heard film → length film ≡ p.sent
halted_count {p} has = grind (arith, common_steps)
