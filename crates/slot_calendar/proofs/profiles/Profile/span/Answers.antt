use Rattle.std.proofs.Common.{List, subst, ◌∙◌}
use Rattle.slot_calendar.specs.declared.profiles.CapStep.{CapStep}
use Rattle.slot_calendar.specs.Profiles.{IsSpan, IsCapacity}
use Rattle.slot_calendar.proofs.CapacitySteps.{span-is, capacity-small}
use Rattle.slot_calendar.proofs.profiles.Profile.span.Goals as goal

pub returns-clause-span : goal.returns-clause-span
returns-clause-span c =
    let P : List CapStep → Type 0 =
    λ steps. IsSpan steps c.args.slot c.span_at.result.bytes c.span_at.result.until in
    subst P (c.as_slice.ensures.value ∙ c.self.view_is)
    (span-is c.as_slice.result.now c.args.slot c.span_at.result.bytes c.span_at.result.until
    (c.span_at.ensures.some c.requires) c.span_at.ensures.same)

pub returns-clause-small : goal.returns-clause-small
returns-clause-small c =
    capacity-small c.self.inside.steps.items c.args.slot c.span_at.result.bytes c.self.invariant
    (subst (λ (steps : List CapStep). IsCapacity steps c.args.slot c.span_at.result.bytes)
    c.as_slice.ensures.value c.span_at.ensures.here)
