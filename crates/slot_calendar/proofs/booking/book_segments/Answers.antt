use Rattle.std.proofs.lemmas.Grind.{common_steps}
use Rattle.std.proofs.Common.{◌≤◌, arith, ◌∙◌}
use Rattle.slot_calendar.proofs.PlanSlots.{SegmentFrom, asked-next, asked-through, from-next, segment-at}
use Rattle.slot_calendar.proofs.booking.book_segments.Goals as goal
use Rattle.slot_calendar.proofs.booking.book_segments.Goals.{In-loop-segment}

-- the segment in hand
abbrev at : (c : In-loop-segment) → SegmentFrom
at c = segment-at c.args.start c.args.segments.now c.loop-segment.segment-index (omega arith)
    c.loop-segment.invariant.from_is

pub book_segment-requires : goal.book_segment-requires
book_segment-requires c =
    let i = c.loop-segment.invariant in
    let here = at (goal.at.book_segment-requires c).In-loop-segment in
    record {
      plan = grind (arith, common_steps);
      small = grind (arith, common_steps);
      from_now = grind (arith, common_steps);
      within = grind (arith, common_steps);
      fits = λ t from. (
          let since : c.args.ring.now.first ≤ t = omega (arith, from, i.first_is) in
          omega (arith, asked-through t here, i.totals t since, c.requires.fits t since)
          );
    }

pub loop-segment-preserved : goal.loop-segment-preserved
loop-segment-preserved c =
    let i = c.loop-segment.invariant in
    let here = at (goal.at.loop-segment-preserved c).In-loop-segment in
    record {
      from_is = from-next here;
      first_is = c.book_segment.ensures.now ∙ i.first_is;
      stale_is = c.book_segment.ensures.stale ∙ i.stale_is;
      totals = λ t since.
          let added = c.book_segment.ensures.totals t (omega (arith, since, i.first_is)) in
          omega (arith, asked-next t here, added, i.totals t since);
    }

pub loop-segment-init : goal.loop-segment-init
loop-segment-init c = grind (arith, common_steps)

pub overflow_add-from : goal.overflow_add-from
overflow_add-from c = grind (arith, common_steps)

pub returns-clause-totals : goal.returns-clause-totals
returns-clause-totals c = grind (arith, common_steps)
