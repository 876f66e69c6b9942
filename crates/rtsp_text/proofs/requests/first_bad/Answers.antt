use Rattle.std.proofs.Common.{sym, subst, ◌∙◌, arith, below_more}
use Rattle.rtsp_text.specs.Lines.{header_lines}
use Rattle.rtsp_text.specs.Grammar.{IsHeaderLine}
use Rattle.rtsp_text.proofs.LineIteration.{header_lines-few}
use Rattle.rtsp_text.proofs.MessageUniqueness.{line_at, all_good}
use Rattle.rtsp_text.proofs.requests.first_bad.Goals as goal

pub overflow_add-count : goal.overflow_add-count
overflow_add-count c =
    let lines = header_lines c.args.message.now in
    let at = line_at lines c.loop-line.count _ _ (c.loop-line.invariant.left ∙ c.in-Some.ensures.steps) in
    omega (arith, at.inside, header_lines-few c.args.message.now)

pub loop-line-preserved : goal.loop-line-preserved
loop-line-preserved c =
    let inv = c.loop-line.invariant in
    let at = line_at (header_lines c.args.message.now) c.loop-line.count _ _ (inv.left ∙ c.in-Some.ensures.steps) in
    record {
      left = at.left;
      good = below_more _ _ inv.good
          (subst IsHeaderLine (sym at.line_is) (c.is_header_line.ensures.0 c.if-not-is_header_line.false));
    }

pub returns : goal.returns
returns c =
    let inv = c.loop-line.invariant in
    all_good (header_lines c.args.message.now) c.loop-line.count (inv.left ∙ c.in-None.ensures.steps.0) inv.good
