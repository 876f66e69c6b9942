-- The bytes of a plan, and where its sending stands.
use Rattle.std.proofs.Common.{◌≡◌, ◌+◌, ◌-◌, nat_lt, ◌==◌, take, drop, ap, subst, ◌∙◌, arith}
use Rattle.std.proofs.lemmas.Bool.{and_from, and_parts, eq-eqb, eqb-true, lt-ltb, ltb-true}
use Rattle.std.proofs.lemmas.List.{length-drop, take_all}
use Rattle.film_frames.specs.Tracks.{IsBoundary, framed_bytes}
use Rattle.plan_cert.specs.PlanSlots.{total_bytes}
use Rattle.pacer.specs.Boundaries.{boundary_from}
use Rattle.pacer.specs.PacerStates.{IsPacerState, PacerState, next_boundary}
use Rattle.pacer.specs.Laws.{DoPartsJoin, SendsTheTrack, IsBoundaryExact, IsDoneExact}
use Rattle.pacer.proofs.PacerStateLemmas.{boundary-from}
use Rattle.pacer.proofs.SendLemmas.{between-join}

pub parts-join : (p : PacerState) → IsPacerState p → DoPartsJoin p
parts-join p is =
    λ from at to le more.
    between-join p.pieces (p.before + from) (p.before + at) (p.before + to) (omega arith) (omega arith)

pub sends-track : (p : PacerState) → IsPacerState p → SendsTheTrack p
sends-track p is =
    let framed = framed_bytes p.pieces in
    let same : p.before + 0 ≡ p.before = omega arith in
    let long = length-drop p.before framed in
    ap (λ n. take (p.before + total_bytes p.plan - n) (drop n framed)) same
    ∙ take_all (p.before + total_bytes p.plan - p.before) (drop p.before framed) (omega (arith, long, is.whole))

pub tells-boundaries : (p : PacerState) → IsPacerState p → IsBoundaryExact p
tells-boundaries p is =
    let at = p.before + p.sent in
    let next = boundary-from p.pieces at (omega (arith, is.sent, is.due, is.most, is.whole)) in (
      (λ stands.
          let same : boundary_from p.pieces at ≡ at =
          omega (arith, next.after, eqb-true (next_boundary p) p.sent stands) in
          subst (IsBoundary p.pieces) same next.boundary),
      (λ boundary. eq-eqb (next_boundary p) p.sent (omega (arith, next.after, next.least at boundary (omega arith)))),
    )

pub tells-end : (p : PacerState) → IsPacerState p → IsDoneExact p
tells-end p is = (
  (λ done.
      let both = and_parts (nat_lt 0 p.passed) (p.sent == p.keep) done in
      record {
        begun = omega (arith, ltb-true 0 p.passed both.0);
        none_left = omega (arith, eqb-true p.sent p.keep both.1);
      }),
  (λ out.
      let all : p.sent ≡ p.keep = omega (arith, out.none_left, is.sent, is.due) in
      and_from (nat_lt 0 p.passed) (p.sent == p.keep) (lt-ltb 0 p.passed (omega (arith, out.begun)))
      (eq-eqb p.sent p.keep all)),
)
