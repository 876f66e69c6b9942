use Rattle.std.proofs.Common.{◌≡◌, ◌<◌, ◌≤◌, ◌+◌, ℕ, max, refl, sym, subst, ◌∙◌, inr, arith, List}
use Rattle.slot_calendar.specs.Profiles.{capacity_at}
use Rattle.admission.specs.Histories.{state_after}
use Rattle.admission.specs.Machine.{booked_in, plays_of}
use Rattle.admission.proofs.CapacityBounds.{sound-after}
use Rattle.slot_calendar.proofs.AllSlotOverflow.{StandsWithin}
use Rattle.early_start.proofs.AllSlotOffers.{offer_everywhere}
use Rattle.early_start.specs.StartSearch.{IsOffer}
use Rattle.slot_calendar.specs.declared.profiles.CapStep.{CapStep}
use Rattle.day_run.specs.Clients.{rest_of}
use Rattle.day_run.specs.Days.{IsOfferLine, rest_at}
use Rattle.day_script.specs.LineTexts.{offer_text}
use Rattle.day_run.specs.MachineState.{link_on, day_state_of}
use Rattle.day_run.specs.ClientStates.{Rest}
use Rattle.day_run.proofs.machine.DayMachine.offer.Goals as goal

pub returns : goal.returns
returns c =
    let r = c.args.self.now in
    let state = state_after r.book.entries in
    let rest = c.in-Some.rest in
    let calendar = c.calendar-calendar.result.now in
    let found = c.find.new.self in
    let plan = c.in_ok-plan.plan in
    let within : (t : ℕ) → booked_in state t ≤ capacity_at r.book.steps t =
    (sound-after r.book.steps r.book.entries c.calendar-calendar.ensures.legal).within.each in
    let S : List CapStep → Type 0 = λ s. (t : ℕ) → booked_in state t ≤ capacity_at s t in
    let late : calendar.first < c.max.result + 1 = omega arith in
    let its : StandsWithin (capacity_at calendar.steps) calendar (plays_of state) =
    record {
      stands = c.calendar-calendar.ensures.stands;
      within = subst S (sym c.calendar-calendar.ensures.steps) within;
    } in
    let offer = offer_everywhere its late c.find.ensures.offer in
    let O : List CapStep → Type 0 =
    λ s. IsOffer 0 (booked_in state) (capacity_at s) plan (c.max.result + 1) found in
    let first : c.max.result + 1 ≡ max state.now r.heard + 1 = omega (arith, c.calendar-calendar.ensures.now) in
    let F : ℕ → Type 0 = λ n. IsOffer 0 (booked_in state) (capacity_at r.book.steps) plan n found in
    let at : rest_of rest ≡ rest_at (link_on r) c.args.source c.args.buffer c.args.delay = search arith in
    subst (λ (x : Rest). IsOfferLine (link_on r) x c.args.wait (day_state_of r) (day_state_of r) (offer_text found))
    at (inr (record {
      plan = plan;
      plan_is = c.in_ok-plan.ensures.plan;
      found = found;
      wait_is = c.find.ensures.wait ∙ c.in-Ok.ensures.wait;
      found_is = subst F first (subst O c.calendar-calendar.ensures.steps offer);
      told = record { kept = refl; text_is = refl };
    }))
