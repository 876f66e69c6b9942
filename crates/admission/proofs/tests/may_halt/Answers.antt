use Rattle.std.proofs.Common.{◌<◌, ◌∙◌, ap, arith, length, List, refl, subst, sym}
use Rattle.std.proofs.lemmas.List.{get_or_read}
use Rattle.admission.specs.declared.entries.Entry.{Entry}
use Rattle.admission.specs.Histories.{IsStillOpen, play_admitted}
use Rattle.admission.proofs.OpenPlays.{still-open}
use Rattle.admission.proofs.tests.may_halt.Goals as goal

pub returns : goal.returns
returns c = λ _. (
    let entries = c.entries-entries.result.now in
    let found = c.if-not-admits.ensures refl in
    let inside : c.args.number < length entries = omega arith in
    let S : List Entry → Type 0 = λ l. IsStillOpen l c.args.number c.args.keep in
    let still : S entries = record {
      start = found.0;
      segments = found.1.0;
      admission = record {
        inside = inside;
        admitted = λ none.
            ap (λ (e : Entry). play_admitted e.command e.answer)
            (sym (get_or_read entries c.args.number c.index-entries-number.result inside
            c.index-entries-number.is none)) ∙ found.1.1.0;
      };
      unhalted = record {
        each = λ i none less. c.loop-entry.invariant i none (omega (arith, less, c.loop-entry-test.false));
      };
      small = found.1.1.1;
    } in
    still-open c.args.book.now.steps c.args.book.now.entries c.args.number c.args.keep
    c.entries-entries.ensures.legal (subst S c.entries-entries.ensures.value still)
    )
