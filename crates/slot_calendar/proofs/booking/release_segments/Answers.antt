use Rattle.std.proofs.Common.{◌≤◌, arith, ◌∙◌}
use Rattle.slot_calendar.proofs.PlanSlots.{SegmentFrom, bytes-next, cut-next, cut-through, from-next, segment-at}
use Rattle.slot_calendar.proofs.booking.release_segments.Goals as goal
use Rattle.slot_calendar.proofs.booking.release_segments.Goals.{In-loop-segment}

-- the segment in hand
abbrev at : (c : In-loop-segment) → SegmentFrom
at c = segment-at c.args.start c.args.segments.now c.loop-segment.segment-index (omega arith)
    c.loop-segment.invariant.from_is

pub release_segment-requires-clause-booked : goal.release_segment-requires-clause-booked
release_segment-requires-clause-booked c = λ t from. (
    let i = c.loop-segment.invariant in
    let here = at (goal.at.release_segment-requires-clause-booked c).In-loop-segment in
    let since : c.args.ring.now.first ≤ t = omega (arith, from, i.first_is) in
    let cut = cut-through here c.args.keep t c.requires.plan.no_empty i.left_is in
    omega (arith, cut, i.totals t since, c.requires.booked t since)
    )

pub loop-segment-preserved : goal.loop-segment-preserved
loop-segment-preserved c =
    let i = c.loop-segment.invariant in
    let here = at (goal.at.loop-segment-preserved c).In-loop-segment in
    record {
      from_is = from-next here;
      left_is = omega (arith, i.left_is, bytes-next here, c.saturating_sub-left.ensures);
      first_is = c.release_segment.ensures.now ∙ i.first_is;
      totals = λ t since.
          let next = cut-next here c.args.keep t c.requires.plan.no_empty i.left_is in
          let taken = c.release_segment.ensures.totals t (omega (arith, since, i.first_is)) in
          omega (arith, next, taken, i.totals t since);
    }
