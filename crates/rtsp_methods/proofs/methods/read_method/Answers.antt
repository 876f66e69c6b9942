use Rattle.std.proofs.Common.{◌≢◌, sym, ap, ◌∙◌, arith, below_more}
use Rattle.std.specs.Cmp.Lexicographic.{same_text, other_text}
use Rattle.rtsp_methods.specs.Methods.{name_of}
use Rattle.rtsp_methods.proofs.MethodTable.{method_at, method_in_row, name_in_row, named_in_row, rows_long}
use Rattle.rtsp_methods.proofs.methods.read_method.Goals as goal

pub returns-then-eq : goal.returns-then-eq
returns-then-eq c =
    let rows = c.rows-row-items in
    let place = c.loop-row.row-index in
    same_text c.args.text.now c.as_bytes.result.now (sym c.if-eq.true ∙ c.eq.ensures)
    ∙ name_in_row rows.result.now _ rows.ensures place c.loop-row-test.true c.as_bytes.ensures.value
    ∙ ap name_of (sym (method_in_row rows.result.now _ rows.ensures place c.loop-row-test.true))

pub loop-row-preserved : goal.loop-row-preserved
loop-row-preserved c =
    let rows = c.rows-row-items in
    let place = c.loop-row.row-index in
    let here : c.args.text.now ≢ name_of (method_at place) =
    λ named. other_text c.args.text.now c.as_bytes.result.now (sym c.if-eq.false ∙ c.eq.ensures)
    (named ∙ sym (name_in_row rows.result.now _ rows.ensures place c.loop-row-test.true c.as_bytes.ensures.value)) in
    below_more (λ k. c.args.text.now ≢ name_of (method_at k)) place c.loop-row.invariant here

pub returns : goal.returns
returns c =
    let long = rows_long c.rows-row-items.result.now c.rows-row-items.ensures in
    named_in_row (λ k below. c.loop-row.invariant k (omega arith))
