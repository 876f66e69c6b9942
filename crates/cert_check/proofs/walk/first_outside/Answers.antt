use Rattle.std.proofs.lemmas.Grind.{common_steps}
use Rattle.std.proofs.Common.{◌≡◌, ◌<◌, ◌+◌, false, not, is_some, length, arith, ap, ◌∙◌, below_more}
use Rattle.std.proofs.lemmas.Bool.{both_ways}
use Rattle.cert_check.specs.CertFaults.{IsAboveUp}
use Rattle.cert_check.proofs.LineWalkLemmas.{Goes, goes_on, height_at, first_kept, first_found}
use Rattle.cert_check.proofs.walk.first_outside.Goals as goal
use Rattle.cert_check.proofs.walk.first_outside.Goals.{After-next_walk-walk, then-is_none+then-height-from-2}
use Rattle.cert_check.proofs.walk.first_outside.Goals.{else-is_none, else-is_none-via-then-is_none+else-height-from-2}
use Rattle.cert_check.proofs.walk.first_outside.Goals.{else-is_none-via-else-is_none}

-- the slot is one of the curves
few-in : (c : After-next_walk-walk) → c.loop-t.t < length c.args.curves.now.low.items
few-in c =
    let short : c.loop-t.t < length c.as_slice-low.result.now = omega arith in rw c.as_slice-low.ensures.value at short

-- the walk goes on over it
goes-in : (c : After-next_walk-walk)
    → Goes c.args.curves.now.from c.args.segments.now (c.loop-t.t + 1) c.next_walk-walk.result
goes-in c =
    rw c.next_walk-walk.ensures
    (goes_on c.loop-t.invariant.stands (c.requires.some, omega (arith, few-in c, c.requires.slots)))

pub returns-then-height-from : goal.returns-then-height-from
returns-then-height-from c =
    let few = few-in (goal.at.returns-then-height-from c).After-next_walk-walk in
    let goes = goes-in (goal.at.returns-then-height-from c).After-next_walk-walk in
    let at = height_at goes in
    let under = rw (c.from.ensures, c.from-in-loop-t.ensures, c.as_slice-low.ensures.value) at c.if-height-from.true in
    record {
      here = (few, rw (at.top, at.under) (omega (arith, c.scaled_height-height.ensures, under)));
      not_before = c.loop-t.invariant.not_below;
    }

pub loop-t-preserved : goal.loop-t-preserved
loop-t-preserved c =
    let curves = c.args.curves.now in
    let few = few-in (goal.at.loop-t-preserved c).After-next_walk-walk in
    let goes = goes-in (goal.at.loop-t-preserved c).After-next_walk-walk in
    let at = height_at goes in
    let scaled = c.scaled_height-height.ensures in
    let Above = IsAboveUp curves.from curves.up.items c.args.segments.now in
    let up_is = c.as_slice-up.ensures.value in
    record {
      stands = goes.stands;
      not_below = below_more _ _ c.loop-t.invariant.not_below (λ fault.
          let over =
          rw (c.from.ensures, c.from-in-loop-t.ensures, c.as_slice-low.ensures.value) at c.if-height-from.false in
          let h = rw (at.top, at.under) at fault.1 in
          omega (arith, scaled, over, h));
      above_is = elim c.if-is_none.branch [
        | then-is_none+then-height-from-2 w ↦ (
            let none : is_some c.loop-t.above ≡ false = c.is_none.ensures ∙ ap not w.if-is_none.true in
            let over =
            rw (w.from-then-is_none.ensures, w.from-then-is_none-2.ensures, up_is) at w.if-height-from-2.true in
            rw w.above-is
            (first_found c.loop-t.above Above c.loop-t.t c.loop-t.invariant.above_is none (
              omega (arith, few, c.requires.slots, c.requires.slots_up),
              rw (at.top, at.under) (omega (arith, scaled, over)),
            ))
            )
        | else-is_none w ↦
            rw w.above-is
            (first_kept c.loop-t.above Above c.loop-t.t c.loop-t.invariant.above_is
            (λ none. elim w.else-is_none.branch [
              | else-is_none-via-then-is_none+else-height-from-2 w' ↦ (λ fault.
                  let under =
                  rw (w'.from-then-is_none.ensures, w'.from-then-is_none-2.ensures, up_is)
                  at w'.if-height-from-2.false in
                  let h = rw (at.top, at.under) at fault.1 in
                  omega (arith, scaled, under, h))
              | else-is_none-via-else-is_none w' ↦
                  absurd (both_ways (is_some c.loop-t.above) none (c.is_none.ensures ∙ ap not w'.if-is_none.false))
            ]))
      ];
    }

pub loop-t-init : goal.loop-t-init
loop-t-init c = grind (arith, common_steps)

pub next_walk-walk-requires : goal.next_walk-walk-requires
next_walk-walk-requires c = grind (arith, common_steps)

pub bounds-segments-walk : goal.bounds-segments-walk
bounds-segments-walk c = grind (arith, common_steps)

pub scaled_height-height-requires : goal.scaled_height-height-requires
scaled_height-height-requires c = grind (arith, common_steps)

pub overflow_mul-from : goal.overflow_mul-from
overflow_mul-from c = grind (arith, common_steps)

pub overflow_mul-from-then-is_none : goal.overflow_mul-from-then-is_none
overflow_mul-from-then-is_none c = grind (arith, common_steps)
