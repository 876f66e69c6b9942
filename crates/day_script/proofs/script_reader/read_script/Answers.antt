use Rattle.std.proofs.Common.{◌≡◌, ◌≤◌, [], length, drop, ◌∙◌, false, true, arith, sym, ap, inl, inr}
use Rattle.std.proofs.lemmas.List.{length-drop, take_all}
use Rattle.day_script.specs.TextLines.{lines_of_script}
use Rattle.day_script.specs.ScriptReading.{lines_read, nothing_read}
use Rattle.day_script.proofs.LineReadLemmas.{bad-next, next-line, read-next}
use Rattle.day_script.proofs.script_reader.read_script.Goals as goal

pub returns-then-number-eq-MAX_LINES-clause-refused : goal.returns-then-number-eq-MAX_LINES-clause-refused
returns-then-number-eq-MAX_LINES-clause-refused c =
    let inv = c.loop-line.invariant in
    let at = next-line (lines_of_script c.args.text.now) c.loop-line.number c.in-Some.line.now
    (lines_of_script c.in-Some.next.now) (inv.left ∙ c.in-Some.ensures.some) in
    bad-next at inv.few inv.read (inl (omega arith))

pub returns-then-not-stands-clause-refused : goal.returns-then-not-stands-clause-refused
returns-then-not-stands-clause-refused c =
    let stands : c.in_ok-stands.stands ≡ false = c.if-not-stands.true in
    let inv = c.loop-line.invariant in
    let at = next-line (lines_of_script c.args.text.now) c.loop-line.number c.in-Some.line.now
    (lines_of_script c.in-Some.next.now) (inv.left ∙ c.in-Some.ensures.some) in
    bad-next at inv.few inv.read (inr (rw stands at c.in_ok-stands.ensures.taken))

pub loop-line-preserved : goal.loop-line-preserved
loop-line-preserved c =
    let stands : c.in_ok-stands.stands ≡ true = c.if-not-stands.false in
    let inv = c.loop-line.invariant in
    let at = next-line (lines_of_script c.args.text.now) c.loop-line.number c.in-Some.line.now
    (lines_of_script c.in-Some.next.now) (inv.left ∙ c.in-Some.ensures.some) in
    record {
      few = omega arith;
      inside = at.inside;
      left = at.left;
      read = read-next c.args.text.now at inv.read (rw stands at c.in_ok-stands.ensures.taken);
      draft = c.in_ok-stands.ensures.draft stands;
    }

pub returns-clause-script : goal.returns-clause-script
returns-clause-script c =
    let inv = c.loop-line.invariant in
    let empty : lines_of_script c.loop-line.rest.now ≡ [] = ap lines_of_script c.in_default.ensures.none in
    let gone : length (drop c.loop-line.number (lines_of_script c.args.text.now)) ≡ 0 = ap length (inv.left ∙ empty) in
    let all : length (lines_of_script c.args.text.now) ≤ c.loop-line.number =
    omega (arith, gone, length-drop c.loop-line.number (lines_of_script c.args.text.now)) in
    record {
      few = omega (arith, inv.few, all);
      slot = c.loop-line.draft.slot;
      read = rw c.into_named.ensures
          (ap (lines_read nothing_read) (sym (take_all c.loop-line.number (lines_of_script c.args.text.now) all))
          ∙ inv.read);
    }
