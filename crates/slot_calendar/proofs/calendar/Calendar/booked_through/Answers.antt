use Rattle.std.proofs.Common.{◌≡◌, arith, sym, ap, ◌∙◌, inl, inr}
use Rattle.std.proofs.lemmas.Bool.{cases_lt}
use Rattle.slot_calendar.specs.Calendars.{booked_at}
use Rattle.slot_calendar.proofs.calendar.Calendar.booked_through.Goals as goal

pub returns-clause-after : goal.returns-clause-after
returns-clause-after c = λ t from late. (
    let first : c.self.inside.ring.first ≡ c.args.self.now.first = ap (λ s. s.first) c.self.view_is in
    sym (ap (λ s. booked_at s t) c.self.view_is)
    ∙ elim (cases_lt c.last.result t) [
      | inl later ↦ c.last.ensures t (omega (arith, first, from)) (omega (arith, later))
      | inr held ↦ c.now.ensures.past t (omega (arith, held, late, c.min.ensures, c.now.ensures.value))
    ]
    )
