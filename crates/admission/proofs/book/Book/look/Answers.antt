use Rattle.std.proofs.Common.{ℕ, arith, refl, sym, subst, ◌∙◌}
use Rattle.admission.specs.declared.entries.Answer.TheVariants.{Looked}
use Rattle.admission.specs.declared.entries.Command.TheVariants.{Look}
use Rattle.admission.specs.Books.{IsFull, IsNoted, Journal}
use Rattle.admission.specs.Histories.{state_after}
use Rattle.admission.specs.Machine.{IsAnswer}
use Rattle.admission.proofs.Journals.{kept-push, noted-push}
use Rattle.admission.proofs.book.Book.look.Goals as goal
use Rattle.admission.proofs.book.Book.look.Goals.{After-note}

answered : (c : After-note)
    → IsAnswer c.self.inside.calendar.steps (state_after c.self.inside.entries.items) (Look c.min-slot.result)
    (Looked c.now-now.result c.max-at.result c.booked-booked.result)
answered c =
    let follows = c.self.invariant.follows in let now = c.now-now.ensures.value in let at = c.max-at.ensures in (
      now ∙ follows.now,
      omega (arith, at, now, follows.now),
      c.booked-booked.ensures.value ∙ follows.stands.each c.max-at.result (omega (arith, at, now)),
    )

pub invariant_of-self : goal.invariant_of-self
invariant_of-self c =
    let counts = subst (λ (j : Journal). IsFull j c.counts-full.result)
    (sym c.self.view_is) c.counts-full.ensures.full in
    kept-push c.self.invariant (record {
      entries_are = c.note.ensures.items;
      answered = answered (goal.at.invariant_of-self c).After-note;
      steps_are = refl;
      follows = c.self.invariant.follows;
    }) (record {
      more_is = c.self.invariant.count_is;
      fits = omega (arith, c.if-full-self.false, counts.entries_are, counts.open_is, c.self.invariant.count_is);
    }) c.note.ensures.room

pub returns-clause-noted : goal.returns-clause-noted
returns-clause-noted c =
    let book = c.self.inside in
    let new : Journal =
    record { steps = book.calendar.steps; limit = book.limit; entries = c.note.new.entries.items } in
    let P : Journal → Type 0 = λ j. IsNoted j c.args.maker (Look c.min-slot.result) c.note.result new in
    let S : ℕ → Type 0 = λ n. IsNoted c.args.self.now c.args.maker (Look n) c.note.result new in
    subst S c.min-slot.ensures
    (subst P c.self.view_is (noted-push book.limit
    c.self.invariant.legal
    (answered (goal.at.returns-clause-noted c).After-note)
    (record { place_is = c.note.ensures.place; answer_is = c.note.ensures.answer; entries_are = c.note.ensures.items })
    refl))
