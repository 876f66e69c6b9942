use Rattle.std.proofs.Common.{arith, ◌≡◌, ◌≤◌, ◌+◌, ℕ, List, length, max, ap, sym, subst, ◌∙◌}
use Rattle.std.proofs.lemmas.List.{take_all}
use Rattle.slot_calendar.specs.Plays.{booked_by}
use Rattle.slot_calendar.specs.Profiles.{capacity_at}
use Rattle.slot_calendar.specs.declared.profiles.CapStep.{CapStep}
use Rattle.admission.specs.declared.entries.Entry.{Entry}
use Rattle.admission.specs.Books.{Journal}
use Rattle.admission.specs.Histories.{booked_after, state_after}
use Rattle.admission.specs.Machine.{plays_of}
use Rattle.early_start.specs.StartSearch.{IsOffer}
use Rattle.station.specs.declared.answers.Offered.{Offered}
use Rattle.station.specs.Ledgers.{IsOffered}
use Rattle.station.proofs.ledger.Ledger.offer.Goals as goal

pub returns-clause-offered : goal.returns-clause-offered
returns-clause-offered c =
    let book = c.self.inside.book in let cal = c.calendar-calendar.result.now in
    let seen = c.entries-entries.result.now in
    let told : Offered = record { seen = length seen; first = c.max-first.result + 1 } in
    let same : seen ≡ book.entries = c.entries-entries.ensures.value in
    let now : c.now.result ≡ (state_after book.entries).now = c.now.ensures.value ∙ c.calendar-calendar.ensures.now in
    let plays = plays_of (state_after book.entries) in
    let whole : (t : ℕ) → booked_by plays t ≤ capacity_at book.steps t = λ t.
    subst (λ (xs : List Entry). booked_after xs t ≤ capacity_at book.steps t)
    (take_all (length book.entries) book.entries (omega arith))
    (c.law_never_overbooked.ensures book.steps book.entries (length book.entries) t c.entries-entries.ensures.legal) in
    let within : (t : ℕ) → booked_by plays t ≤ capacity_at cal.steps t = λ t.
    subst (λ (s : List CapStep). booked_by plays t ≤ capacity_at s t)
    (sym c.calendar-calendar.ensures.steps) (whole t) in
    let later = c.max-first.ensures in let first = c.now.ensures.value in
    let offer : IsOffer 0 (booked_by plays) (capacity_at cal.steps) c.args.plan.now told.first c.find.new.self =
    c.law_offer_covers_past_slots.ensures cal plays c.args.plan.now told.first c.find.new.self
    c.calendar-calendar.ensures.stands within (omega arith) c.find.ensures.offer in
    subst (λ (j : Journal). IsOffered j.steps j.entries c.args.heard c.args.plan.now told c.find.new.self)
    c.self.view_is record {
      seen_is = ap (λ (xs : List Entry). length xs) same;
      first_is = ap (λ (k : ℕ). k + 1)
          (c.max-first.ensures
          ∙ (ap (λ (m : ℕ). max m c.min.result) now
          ∙ ap (λ (m : ℕ). max (state_after book.entries).now m) c.min.ensures));
      offer = subst (λ (s : List CapStep). IsOffer 0 (booked_by plays) (capacity_at s) c.args.plan.now
          told.first c.find.new.self) c.calendar-calendar.ensures.steps offer;
    }
