use Rattle.std.proofs.Common.{◌≡◌, ◌≤◌, ◌+◌, ◌-◌, ◌∙◌, ℕ, ap, sym, inl, inr, arith}
use Rattle.std.proofs.lemmas.Bool.{cases_lt}
use Rattle.slot_calendar.specs.Calendars.{booked_at}
use Rattle.admission.specs.Histories.{state_after}
use Rattle.admission.specs.Machine.{booked_in}
use Rattle.slot_calendar.proofs.CapacitySteps.{capacity-most}
use Rattle.day_run.proofs.SlotTotals.{Total, booked-fits, greatest, max-by-order, summed, total-past}
use Rattle.day_run.proofs.booked_sums.booked_between.Goals as goal

pub overflow_add-booked : goal.overflow_add-booked
overflow_add-booked c = grind (arith, capacity-most, booked-fits)

pub loop-slot-preserved : goal.loop-slot-preserved
loop-slot-preserved c =
    let calendar = c.calendar-calendar.result.now in
    let most = capacity-most calendar.steps c.loop-slot.slot c.booked_through.ensures.calendar.profile in
    let f = booked_in (state_after c.args.book.now.entries) in
    let slot = c.loop-slot.slot in
    let from = c.args.from in
    let begun : from + 1 ≤ slot = omega arith in
    let here : c.booked-here.result ≡ f slot = grind arith in
    let total : (T : Total) (x : ℕ) → x ≡ T.over f (from + 1) (slot - (from + 1))
    → T.op x c.booked-here.result ≡ T.over f (from + 1) (slot + 1 - (from + 1)) = grind arith in
    record {
      few = grind arith;
      late = omega arith;
      peak = c.max-peak.ensures ∙ max-by-order c.loop-slot.peak c.booked-here.result
          ∙ total greatest c.loop-slot.peak c.loop-slot.invariant.peak;
      sum = total summed c.loop-slot.booked c.loop-slot.invariant.sum;
    }

pub returns : goal.returns
returns c =
    let calendar = c.calendar-calendar.result.now in
    let f = booked_in (state_after c.args.book.now.entries) in
    let slot = c.loop-slot.slot in
    let from = c.args.from in
    let to = c.args.to in
    let known : calendar.first ≤ from = omega (arith, c.calendar-calendar.ensures.now, c.requires.from_now) in
    let past = slot - (from + 1) in
    let le : past ≤ to - from = omega (arith, c.loop-slot.invariant.late) in
    let whole : (T : Total) → T.over f (from + 1) (slot - (from + 1)) ≡ T.over f (from + 1) (to - from) = λ T.
    elim (cases_lt c.booked_through.result to) [
      | inl short ↦
          let all : past + (to - from - past) ≡ to - from = omega (arith, le) in
          total-past T f (from + 1) past (to - from - past) (λ t late.
          let empty : booked_at calendar t ≡ 0 = search arith in
          sym (c.calendar-calendar.ensures.stands.each t (omega (arith, late, known))) ∙ empty)
          ∙ ap (T.over f (from + 1)) all
      | inr long ↦ grind arith
    ] in
    record {
      booked = c.loop-slot.invariant.sum ∙ whole summed;
      peak = c.loop-slot.invariant.peak ∙ whole greatest;
      few = omega (arith, c.loop-slot.invariant.few, le);
    }
