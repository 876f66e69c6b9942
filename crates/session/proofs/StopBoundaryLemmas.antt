-- A step with a stop that leaves something ends at a boundary.
use Rattle.std.proofs.Common.{◌≡◌, ℕ, ◌+◌, ◌-◌, ◌<◌, ◌≤◌, min, true, length, eq-eqb, arith}
use Rattle.session.proofs.SharedTerms.{after_step, boundary-from, boundary-is, boundary_from, due_by, framed_bytes}
use Rattle.session.proofs.SharedTerms.{IsBoundaryAfter, IsPacerState, PacerState, stands_at_boundary}

pub stop_between : (slot : ℕ) (old new : PacerState) → IsPacerState old → new ≡ after_step true slot old
    → 0 < new.due - new.sent → stands_at_boundary new ≡ true
stop_between slot old new is_old is left =
    let within : old.before + old.sent ≤ old.before + old.keep = omega (arith, is_old.sent, is_old.due) in
    let most : old.before + old.keep ≤ length (framed_bytes old.pieces) = omega (arith, is_old.whole, is_old.most) in
    let place = boundary_from old.pieces (old.before + old.sent) in
    let due = due_by old slot in
    let inside : old.before + old.sent ≤ length (framed_bytes old.pieces) = omega arith in
    let next : IsBoundaryAfter old.pieces (old.before + old.sent) place = search boundary-from in
    let below : place ≤ old.before + old.keep = next.least (old.before + old.keep) is_old.ends within in
    let fits : place ≤ length (framed_bytes old.pieces) = omega arith in
    let itself : IsBoundaryAfter old.pieces place place = grind arith in
    let stays : place ≡ boundary_from old.pieces place = boundary-is old.pieces place place fits itself in
    let more : 0 < due - min due (place - old.before) = rw is at left in
    let moved : boundary_from old.pieces (old.before + min due (place - old.before)) ≡ place = grind arith in
    rw is (eq-eqb (boundary_from old.pieces (old.before + min due (place - old.before)) - old.before)
    (min due (place - old.before)) (omega arith))
