use Rattle.std.proofs.Common.{◌≡◌, List, sym, subst}
use Rattle.slot_calendar.specs.declared.profiles.CapStep.{CapStep}
use Rattle.slot_calendar.specs.Profiles.{capacity_at}
use Rattle.slot_calendar.proofs.CapacitySteps.{capacity-is}
use Rattle.slot_calendar.proofs.profiles.Profile.at.Goals as goal

pub returns-clause-value : goal.returns-clause-value
returns-clause-value c =
    let P : List CapStep → Type 0 = λ steps. c.span_at.result.bytes ≡ capacity_at steps c.args.slot in
    subst P c.self.view_is
    (subst P c.as_slice.ensures.value
    (sym (capacity-is c.as_slice.result.now c.args.slot c.span_at.result.bytes c.span_at.ensures.here)))
