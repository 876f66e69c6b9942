use Rattle.std.proofs.Common.{◌≡◌, ◌++◌, ℕ, List, [], ◌∷◌, length, arith, sym, ap, subst, ◌∙◌}
use Rattle.admission.specs.declared.entries.Answer.{Answer}
use Rattle.admission.specs.declared.entries.Answer.TheVariants.{Admitted}
use Rattle.admission.specs.declared.entries.Command.TheVariants.{Play}
use Rattle.admission.specs.declared.entries.Entry.{Entry}
use Rattle.admission.specs.Machine.{CanHalt, IsAnswer}
use Rattle.admission.specs.Books.{IsFull, IsNoted, Journal}
use Rattle.admission.specs.Histories.{state_after}
use Rattle.admission.proofs.HistoryPrefixes.{Machine}
use Rattle.admission.proofs.Journals.{kept-push, noted-push, open-asked, opens-most}
use Rattle.admission.proofs.OpenPlays.{opened-last}
use Rattle.admission.proofs.CapacityBounds.{sound-after}
use Rattle.admission.proofs.book.Book.play.Goals as goal
use Rattle.admission.proofs.book.Book.play.Goals.{After-note}

answered : (c : After-note)
    → IsAnswer c.self.inside.calendar.steps (state_after c.self.inside.entries.items)
    (Play c.min-slot.result c.args.plan) c.admit-answer.result
answered c =
    let book = c.self.inside in
    c.admit-answer.ensures.answer (state_after book.entries.items) c.self.invariant.follows
    (sound-after book.calendar.steps book.entries.items c.self.invariant.legal).within

pub invariant_of-self : goal.invariant_of-self
invariant_of-self c =
    let book = c.self.inside in
    let state = state_after book.entries.items in
    let counts = subst (λ (j : Journal). IsFull j c.counts-full.result)
    (sym c.self.view_is) c.counts-full.ensures.full in
    let answer = answered (goal.at.invariant_of-self c).After-note in
    let machine : Machine = record { steps = book.calendar.steps; state = state } in
    let asked = open-asked machine
    (length book.entries.items) c.min-slot.result c.args.plan c.admit-answer.result answer in
    kept-push c.self.invariant (record {
      entries_are = c.note.ensures.items;
      answered = answer;
      steps_are = c.admit-answer.ensures.steps;
      follows = c.admit-answer.ensures.next state (length book.entries.items) c.self.invariant.follows;
    }) (record {
      more_is = omega (arith, asked, c.opened_count.ensures, c.self.invariant.count_is);
      fits = omega (
        arith,
        c.if-full-self.false,
        counts.entries_are,
        counts.open_is,
        c.self.invariant.count_is,
        c.opened_count.ensures,
        opens-most c.admit-answer.result,
      );
    }) c.note.ensures.room

pub returns-clause-noted : goal.returns-clause-noted
returns-clause-noted c =
    let book = c.self.inside in
    let new : Journal =
    record { steps = c.admit-answer.new.calendar.steps; limit = book.limit; entries = c.note.new.entries.items } in
    let P : Journal → Type 0 = λ j. IsNoted j c.args.maker (Play c.min-slot.result c.args.plan) c.note.result new in
    let S : ℕ → Type 0 = λ n. IsNoted c.args.self.now c.args.maker (Play n c.args.plan) c.note.result new in
    subst S c.min-slot.ensures
    (subst P c.self.view_is (noted-push book.limit
    c.self.invariant.legal
    (answered (goal.at.returns-clause-noted c).After-note)
    (record { place_is = c.note.ensures.place; answer_is = c.note.ensures.answer; entries_are = c.note.ensures.items })
    c.admit-answer.ensures.steps))

pub returns-clause-open : goal.returns-clause-open
returns-clause-open c = λ start keep told small.
    let xs = c.self.inside.entries.items in
    let answer : c.admit-answer.result ≡ Admitted start = sym c.note.ensures.answer ∙ told in
    let E : Answer → Entry =
    λ a. record { maker = c.args.maker; command = Play c.min-slot.result c.args.plan; answer = a } in
    let items : c.note.new.entries.items ≡ xs ++ E (Admitted start) ∷ [] =
    c.note.ensures.items ∙ ap (λ a. xs ++ E a ∷ []) answer in
    let C : List Entry → Type 0 = λ l. CanHalt (state_after l) (length xs) keep in
    let N : ℕ → Type 0 = λ n. CanHalt (state_after c.note.new.entries.items) n keep in
    subst N (sym c.note.ensures.place)
    (subst C (sym items) (opened-last c.args.maker c.min-slot.result start c.args.plan
    c.self.invariant.legal small))
