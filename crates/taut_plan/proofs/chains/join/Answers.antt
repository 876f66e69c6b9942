use Rattle.std.proofs.lemmas.Grind.{common_steps}
use Rattle.std.proofs.Common.{arith, ◌-◌, [], ◌∷◌, length, ap}
use Rattle.std.proofs.lemmas.List.{length-append, length-take}
use Rattle.taut_plan.specs.Chain.{read_to}
use Rattle.taut_plan.specs.CurveSides.{side_of}
use Rattle.taut_plan.proofs.ChainLemmas.{chain_opens}
use Rattle.taut_plan.proofs.QueueLemmas.{linked_to_last}
use Rattle.taut_plan.proofs.PointRangeLemmas.{points_fit}
use Rattle.taut_plan.proofs.RiseLemmas.{curve_rises, ready, ready_pops, ready_joins, ends_before, LastTest, dropped_by}
use Rattle.taut_plan.proofs.chains.join.Goals as goal
use Rattle.taut_plan.proofs.chains.join.Goals.{After-is_passed}

pub loop-last-init : goal.loop-last-init
loop-last-init c =
    let read = read_to c.args.side (side_of c.args.curves.now c.args.side) c.args.slot in
    ready (record {
      is = c.point_at-point.ensures;
      apex = c.requires.apex;
      fit = λ j le. points_fit c.args.side c.requires.sound j (let low = c.requires.low in omega (arith, le, low));
      rises = λ i j le fits.
          curve_rises c.args.side c.requires.sound i j le (let low = c.requires.low in omega (arith, fits, low));
      rising = c.requires.rising;
    }) (chain_opens read c.args.apex _ c.requires.chain)

pub returns-clause-chain : goal.returns-clause-chain
returns-clause-chain c = rw c.in_ok-join.ensures (ready_joins c.loop-side.invariant c.loop-side-test.ensures)

pub loop-side-preserved : goal.loop-side-preserved
loop-side-preserved c = rw c.pop_last-in-loop-side.ensures (ready_pops c.loop-side.invariant c.loop-side-test.ensures)

abbrev test-of : (c : After-is_passed) → LastTest c.args.side c.point_at-point.result
test-of c = record {
  apex = c.args.apex;
  chain = c.loop-last.chain;
  link = c.in-Some.last;
  last = c.in-Some.ensures c.args.apex;
  ascend = c.loop-last.invariant.ascend;
  rise = c.loop-last.invariant.rise;
}

pub loop-last-preserved : goal.loop-last-preserved
loop-last-preserved c =
    let test = test-of (goal.at.loop-last-preserved c).After-is_passed in
    let dropped = rw c.if-not-is_passed.false at (dropped_by c.is_passed.result test c.is_passed.ensures) in
    rw c.pop_last.ensures (ready_pops c.loop-last.invariant dropped)

pub returns-then-not-is_passed-clause-chain : goal.returns-then-not-is_passed-clause-chain
returns-then-not-is_passed-clause-chain c =
    let test = test-of (goal.at.returns-then-not-is_passed-clause-chain c).After-is_passed in
    let kept = rw c.if-not-is_passed.true at (dropped_by c.is_passed.result test c.is_passed.ensures) in
    rw (c.in_ok-push_link.ensures, c.new.ensures.point) (ready_joins c.loop-last.invariant kept)

pub loop-side-smaller : goal.loop-side-smaller
loop-side-smaller c = grind (arith, common_steps)

pub join-requires : goal.join-requires
join-requires c = ends_before c.args.side c.loop-side.invariant.ascend c.loop-side.invariant.rise

pub is_passed-requires : goal.is_passed-requires
is_passed-requires c =
    let last = c.in-Some.ensures c.args.apex in
    let fits = c.loop-last.invariant.fit last.first c.in-Some.last.point last.edge in
    record {
      later = (c.loop-last.invariant.ascend last.first c.in-Some.last.point last.edge).1;
      higher = (c.loop-last.invariant.rise last.first c.in-Some.last.point last.edge).1;
      slots = omega (arith, last.is.slots, fits.passes.place);
      bytes = omega (arith, last.is.bytes, fits.passes.height);
      fits = fits.ends;
    }

pub pop_last-requires : goal.pop_last-requires
pop_last-requires c =
    let last = c.in-Some.ensures c.args.apex in
    omega (arith, ap length last.edge.is, length-append last.edge.front (c.in-Some.last.point ∷ []))

pub loop-last-smaller : goal.loop-last-smaller
loop-last-smaller c =
    let last = c.in-Some.ensures c.args.apex in
    let long = length-append last.edge.front (c.in-Some.last.point ∷ []) in
    omega (
      arith,
      ap length last.edge.is,
      long,
      ap length c.pop_last.ensures,
      length-take (length c.loop-last.chain - 1) c.loop-last.chain,
    )

pub new-requires : goal.new-requires
new-requires c =
    let last = c.in-Some.ensures c.args.apex in
    record {
      later = (c.loop-last.invariant.ascend last.first c.in-Some.last.point last.edge).1;
      higher = (c.loop-last.invariant.rise last.first c.in-Some.last.point last.edge).1;
    }

pub push_link-requires : goal.push_link-requires
push_link-requires c = linked_to_last (c.in-Some.ensures c.args.apex) c.new.ensures.edge
