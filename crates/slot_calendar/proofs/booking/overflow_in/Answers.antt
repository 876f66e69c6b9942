use Rattle.std.proofs.Common.{◌≤◌, ◌+◌, ◌*◌, arith, inl, inr}
use Rattle.std.proofs.lemmas.Bool.{cases_lt}
use Rattle.slot_calendar.proofs.PlanSlots.{asked-most, ceil-most, one-some}
use Rattle.slot_calendar.proofs.RingRotation.{same-block}
use Rattle.slot_calendar.proofs.booking.overflow_in.Goals as goal

pub loop-passed-preserved : goal.loop-passed-preserved
loop-passed-preserved c =
    let i = c.loop-passed in
    let s = c.args.segment in
    let pos = one-some s c.requires.plan in
    let most : s.bytes ≤ c.div_ceil-most.result * s.slots =
    ceil-most s.bytes s.slots c.div_ceil-most.result pos c.div_ceil-most.ensures in
    record {
      within = omega (arith, c.min.ensures, c.min-end.ensures);
      fits = λ u from less. elim (cases_lt u (c.args.from + i.passed)) [
        | inl before ↦ i.invariant.fits u from before
        | inr more ↦ (
            let block = same-block (c.args.from + i.passed) u more
            (omega (arith, less, c.min.ensures, c.min-end.ensures)) in
            let total = c.top.ensures u more block in
            let asked = asked-most s c.args.from c.div_ceil-most.result u pos most in
            let capacity = c.span-span.ensures.span.same u more
            (omega (arith, less, c.min.ensures, c.min-end.ensures)) in
            omega (arith, total, asked, capacity, c.if-most-span.false, c.if-top-span.false)
            )
      ];
    }
