use Rattle.std.proofs.Common.{arith}
use Rattle.taut_plan.proofs.RiseLemmas.{dropped_by}
use Rattle.taut_plan.proofs.chains.is_last_dropped.Goals as goal

pub is_passed-requires-clause-later : goal.is_passed-requires-clause-later
is_passed-requires-clause-later c =
    let last = c.in-Some.ensures in (c.requires.ascend last.first c.in-Some.link.point last.edge).1

pub is_passed-requires-clause-higher : goal.is_passed-requires-clause-higher
is_passed-requires-clause-higher c =
    let last = c.in-Some.ensures in (c.requires.rise last.first c.in-Some.link.point last.edge).1

pub is_passed-requires-clause-slots : goal.is_passed-requires-clause-slots
is_passed-requires-clause-slots c =
    let last = c.in-Some.ensures in
    let fits = c.requires.fit last.first c.in-Some.link.point last.edge in
    omega (arith, last.is.slots, fits.passes.place)

pub is_passed-requires-clause-bytes : goal.is_passed-requires-clause-bytes
is_passed-requires-clause-bytes c =
    let last = c.in-Some.ensures in
    let fits = c.requires.fit last.first c.in-Some.link.point last.edge in
    omega (arith, last.is.bytes, fits.passes.height)

pub is_passed-requires-clause-fits : goal.is_passed-requires-clause-fits
is_passed-requires-clause-fits c =
    let last = c.in-Some.ensures in (c.requires.fit last.first c.in-Some.link.point last.edge).ends

pub returns-in-Some : goal.returns-in-Some
returns-in-Some c =
    dropped_by c.is_passed.result (record {
      apex = c.args.apex;
      chain = c.args.chain.now;
      link = c.in-Some.link;
      last = c.in-Some.ensures;
      ascend = c.requires.ascend;
      rise = c.requires.rise;
    }) c.is_passed.ensures
