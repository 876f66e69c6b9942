use Rattle.std.proofs.Common.{arith, rules, Some}
use Rattle.conn.proofs.ElementPrefixes.{cuts_on}
use Rattle.conn.proofs.ReservationSteps.{kept_on}
use Rattle.conn.proofs.CourseSteps.{taken_on, up_on}
use Rattle.conn.proofs.connections.Connection.process_input.Goals as goal

pub elements-preserved : goal.elements-preserved
elements-preserved g c =
    let inv = c.elements.invariant in (
      kept_on inv.0 c.process_next.ensures.kept,
      search rules,
      cuts_on inv.2 c.process_next.ensures.cut,
      taken_on inv.3 c.in-Gone.ensures.takes,
      omega (arith, inv.4, c.process_next.ensures.counted.count),
    )

pub returns-in-Waits-clause-kept : goal.returns-in-Waits-clause-kept
returns-in-Waits-clause-kept g c = kept_on c.elements.invariant.0 c.process_next.ensures.kept

pub returns-in-End-clause-kept : goal.returns-in-End-clause-kept
returns-in-End-clause-kept g c = kept_on c.elements.invariant.0 c.process_next.ensures.kept

pub returns-in-End-clause-up : goal.returns-in-End-clause-up
returns-in-End-clause-up g c = up_on (Some c.in-End.end) _ _ _ c.elements.invariant.3 (search rules)
