use Rattle.std.proofs.Common.{◌≡◌, ◌<◌, [], rules, length, sym, ap, ◌∙◌, arith}
use Rattle.std.proofs.lemmas.Bool.{eqb-true}
use Rattle.rtsp_text.specs.Lines.{lines_before_empty}
use Rattle.rtsp_text.proofs.LineIteration.{next_header, next_empty, lines_before_empty-nil, some_bytes}
use Rattle.rtsp_text.proofs.lines.HeaderLinesIterator.next.Goals as goal
use Rattle.rtsp_text.proofs.lines.HeaderLinesIterator.next.Goals.{in_default-via-in-Some+else-not-is_empty}
use Rattle.rtsp_text.proofs.lines.HeaderLinesIterator.next.Goals.{in_default-via-in_default}

pub returns-in-Some-clause-steps : goal.returns-in-Some-clause-steps
returns-in-Some-clause-steps c =
    next_header _ _ _ c.in-Some.ensures
    (some_bytes c.in-Some.line.now (sym c.is_empty.ensures ∙ c.if-not-is_empty.true))

pub returns-in-Some-clause-goes : goal.returns-in-Some-clause-goes
returns-in-Some-clause-goes c =
    let fewer : length (lines_before_empty c.in-Some.rest.now) < length (lines_before_empty c.args.self.now.rest.now) =
    omega (arith, ap length (returns-in-Some-clause-steps c)) in
    search (rules, fewer)

pub returns-in_default-clause-steps : goal.returns-in_default-clause-steps
returns-in_default-clause-steps c =
    let none : lines_before_empty c.args.self.now.rest.now ≡ [] =
    elim c.in_default.branch [
      | in_default-via-in-Some+else-not-is_empty w ↦
          next_empty _ _ _ w.in-Some.ensures
          (eqb-true (length w.in-Some.line.now) 0 (sym w.is_empty.ensures ∙ w.if-not-is_empty.false))
      | in_default-via-in_default w ↦ lines_before_empty-nil _ w.in_default.ensures
    ] in
    (none, none)
