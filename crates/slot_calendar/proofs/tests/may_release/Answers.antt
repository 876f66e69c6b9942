use Rattle.std.proofs.Common.{◌+◌, arith, inl, inr}
use Rattle.std.proofs.lemmas.Bool.{cases_lt}
use Rattle.slot_calendar.proofs.PlanSlots.{cut-after}
use Rattle.slot_calendar.proofs.tests.may_release.Goals as goal

pub returns : goal.returns
returns c = λ _ t from. (
    let i = c.loop-slot in
    elim (cases_lt t (c.args.start + i.slot)) [
      | inl before ↦ i.invariant.booked t from before
      | inr past ↦ (
          let none = cut-after c.args.plan.now c.args.start c.args.keep t (omega arith) in
          omega (arith, none)
          )
    ]
    )
