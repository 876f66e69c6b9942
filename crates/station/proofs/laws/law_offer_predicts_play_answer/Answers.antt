use Rattle.std.proofs.Common.{◌≡◌, arith, ℕ, List, ap, get_or, length, subst, sym, ◌∙◌}
use Rattle.slot_calendar.specs.Calendars.{IsFirstOverflow}
use Rattle.slot_calendar.specs.Profiles.{capacity_at}
use Rattle.admission.specs.Histories.{booked_after}
use Rattle.admission.specs.declared.entries.Entry.{Entry}
use Rattle.station.proofs.Offers.{some_tried}
use Rattle.station.proofs.laws.law_offer_predicts_play_answer.Goals as goal

pub returns-clause-first : goal.returns-clause-first
returns-clause-first c = λ steps entries heard start plan told found is answer. answer.0 ∙ sym is.first_is

pub returns-clause-kept : goal.returns-clause-kept
returns-clause-kept c = λ steps entries heard slot start plan told found is same begins. (
  begins,
  c.law_offered_start_is_earliest.ensures.fits 0 told.first start (booked_after entries) (capacity_at steps) plan
      found is.offer same,
)

pub returns-clause-refused : goal.returns-clause-refused
returns-clause-refused c = λ steps entries heard plan told found none is other.
    let refusals = is.offer.refusals in let some = some_tried _ told.first found is.offer.start other in
    let at : (get_or found.tried 0 none).start ≡ told.first = refusals.starts 0 none some ∙ omega arith in
    subst (λ (b : ℕ). IsFirstOverflow 0 (booked_after entries) (capacity_at steps) b plan
    (get_or found.tried 0 none).over) (at ∙ is.first_is) (refusals.refused 0 none some)

pub returns-clause-place : goal.returns-clause-place
returns-clause-place c = λ steps entries heard more place old new plan answer told found is made same.
    made.place_is ∙ ap (λ (l : List Entry). length l) same ∙ sym is.seen_is
