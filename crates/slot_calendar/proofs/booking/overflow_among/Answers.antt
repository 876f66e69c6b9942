use Rattle.std.proofs.Common.{◌≡◌, ◌<◌, ◌+◌, ◌-◌, [], ◌∷◌, arith, sym, ap, inl, inr}
use Rattle.std.proofs.lemmas.Bool.{cases_lt}
use Rattle.slot_calendar.specs.Plays.{asked_at}
use Rattle.slot_calendar.specs.Totals.{total_at}
use Rattle.slot_calendar.proofs.PlanSlots.{asked-here, sent-next}
use Rattle.slot_calendar.proofs.booking.overflow_among.Goals as goal
use Rattle.slot_calendar.proofs.booking.overflow_among.Goals.{After-sent_through-sent}
use Rattle.slot_calendar.proofs.booking.overflow_among.Goals.{then-booked-capacity-via-then-booked-capacity}
use Rattle.slot_calendar.proofs.booking.overflow_among.Goals.{then-booked-capacity-via-else-booked-capacity+then-asked-capacity}

-- what the segment asks for in the slot in hand
asked_here : (c : After-sent_through-sent)
    → asked_at (c.args.segment ∷ []) c.args.from (c.args.from + c.loop-passed.passed)
    ≡ c.sent_through-sent.result - c.loop-passed.before
asked_here c =
    omega (
      arith,
      asked-here (c.args.segment ∷ []) c.args.from c.loop-passed.passed,
      c.loop-passed.invariant.before_is,
      c.sent_through-sent.ensures.sent c.args.from,
    )

pub overflow_sub-asked : goal.overflow_sub-asked
overflow_sub-asked c =
    let i = c.loop-passed in
    let sent = c.sent_through-sent.ensures.sent c.args.from in
    omega (arith, sent-next (c.args.segment ∷ []) c.args.from i.passed, i.invariant.before_is, sent)

pub returns-then-booked-capacity : goal.returns-then-booked-capacity
returns-then-booked-capacity c =
    let i = c.loop-passed in
    let asked = asked_here (goal.at.returns-then-booked-capacity c).After-sent_through-sent in
    let over : c.args.capacity < c.total-booked.result + (c.sent_through-sent.result - i.before) =
    elim c.then-booked-capacity.branch [
      | then-booked-capacity-via-then-booked-capacity w ↦ omega arith
      | then-booked-capacity-via-else-booked-capacity+then-asked-capacity w ↦ omega arith
    ] in
    record {
      inside = omega arith;
      first = record {
        begun = omega arith;
        overflows = omega (arith, over, asked, c.total-booked.ensures.value);
        least = i.invariant.fits;
        booked_is = c.total-booked.ensures.value;
        asked_is = sym asked;
      };
    }

pub loop-passed-preserved : goal.loop-passed-preserved
loop-passed-preserved c =
    let i = c.loop-passed in
    let segments = c.args.segment ∷ [] in
    let place = c.args.from + i.passed in
    let asked = asked_here (goal.at.loop-passed-preserved c).After-sent_through-sent in
    record {
      before_is = sym (c.sent_through-sent.ensures.sent c.args.from);
      fits = λ u from less. elim (cases_lt u place) [
        | inl before ↦ i.invariant.fits u from before
        | inr more ↦ (
            let is : u ≡ place = omega (arith, more, less) in
            let same_total : total_at c.args.ring.now.first c.args.ring.now.totals u
            ≡ total_at c.args.ring.now.first c.args.ring.now.totals place =
            ap (total_at c.args.ring.now.first c.args.ring.now.totals) is in
            let same_asked : asked_at segments c.args.from u ≡ asked_at segments c.args.from place =
            ap (asked_at segments c.args.from) is in
            omega (
              arith,
              same_total,
              same_asked,
              asked,
              c.total-booked.ensures.value,
              c.if-booked-capacity.false,
              c.if-asked-capacity.false,
            )
            )
      ];
    }
