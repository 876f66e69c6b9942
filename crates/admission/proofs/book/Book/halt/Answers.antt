use Rattle.std.proofs.Common.{◌≡◌, List, length, arith, ap, subst, sym, ◌∙◌, vec_len}
use Rattle.admission.specs.declared.entries.Entry.{Entry}
use Rattle.admission.specs.declared.entries.Command.TheVariants.{Halt}
use Rattle.admission.specs.declared.entries.Answer.TheVariants.{Halted}
use Rattle.admission.specs.Machine.{CanHalt, next_state}
use Rattle.admission.specs.Books.{IsNoted, Journal}
use Rattle.admission.specs.Histories.{state_after}
use Rattle.admission.specs.BookInvariant.{MatchesState}
use Rattle.admission.proofs.Journals.{kept-push, noted-push, open-halted}
use Rattle.admission.proofs.book.Book.halt.Goals as goal

pub overflow_sub-self : goal.overflow_sub-self
overflow_sub-self c =
    let can = subst (λ (j : Journal). CanHalt (state_after j.entries) c.args.number c.args.keep) (sym c.self.view_is)
    c.requires in
    let fewer = open-halted (state_after c.self.inside.entries.items) 0 c.args.number c.args.keep can in
    omega (arith, fewer, c.self.invariant.count_is)

pub note-requires : goal.note-requires
note-requires c =
    let book = c.self.inside in
    let can = subst (λ (j : Journal). CanHalt (state_after j.entries) c.args.number c.args.keep) (sym c.self.view_is)
    c.requires in
    let items : length book.entries.items ≡ vec_len book.entries =
    sym (ap length c.as_slice.ensures.value) ∙ c.as_slice.ensures.len in
    omega (
      arith,
      open-halted (state_after book.entries.items) 0 c.args.number c.args.keep can,
      c.self.invariant.within,
      c.self.invariant.reserved,
      items,
    )

pub invariant_of-self : goal.invariant_of-self
invariant_of-self c =
    let book = c.self.inside in
    let state = state_after book.entries.items in
    let can = subst (λ (j : Journal). CanHalt (state_after j.entries) c.args.number c.args.keep) (sym c.self.view_is)
    c.requires in
    let fewer = open-halted state (length book.entries.items) c.args.number c.args.keep can in
    let F : List Entry → Type 0 =
    λ l. MatchesState c.release_play.new.calendar
    (next_state (state_after l) (length book.entries.items) (Halt c.args.number c.args.keep) Halted) in
    kept-push c.self.invariant (record {
      entries_are = c.note.ensures.items;
      answered = can;
      steps_are = c.release_play.ensures.steps;
      follows = subst F c.as_slice.ensures.value (c.release_play.ensures.next (length book.entries.items));
    }) (record {
      more_is = omega (arith, fewer, c.self.invariant.count_is);
      fits = omega (arith, fewer, c.self.invariant.count_is, c.self.invariant.within);
    }) c.note.ensures.room

pub returns-clause-noted : goal.returns-clause-noted
returns-clause-noted c =
    let book = c.self.inside in
    let can = subst (λ (j : Journal). CanHalt (state_after j.entries) c.args.number c.args.keep) (sym c.self.view_is)
    c.requires in
    let new : Journal =
    record { steps = c.release_play.new.calendar.steps; limit = book.limit; entries = c.note.new.entries.items } in
    let P : Journal → Type 0 = λ j. IsNoted j c.args.maker (Halt c.args.number c.args.keep) c.note.result new in
    subst P c.self.view_is (noted-push book.limit
    c.self.invariant.legal can
    (record { place_is = c.note.ensures.place; answer_is = c.note.ensures.answer; entries_are = c.note.ensures.items })
    c.release_play.ensures.steps)
