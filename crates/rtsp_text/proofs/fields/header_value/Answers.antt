use Rattle.std.proofs.Common.{sym, ap, ◌∙◌}
use Rattle.rtsp_text.specs.Fields.{first_value}
use Rattle.rtsp_text.proofs.HeaderValues.{first_value-nil, first_value_some, first_value_more}
use Rattle.rtsp_text.proofs.fields.header_value.Goals as goal

pub returns-in-Some-value_in : goal.returns-in-Some-value_in
returns-in-Some-value_in c =
    sym (ap (first_value c.args.name.now) c.in-Some.ensures.steps
    ∙ first_value_some c.args.name.now _ _ (sym c.in-Some-value_in.ensures)) ∙ c.loop-line.invariant

pub loop-line-preserved : goal.loop-line-preserved
loop-line-preserved c =
    sym (first_value_more c.args.name.now _ _ _ c.in-Some.ensures.steps (sym c.in_default.ensures))
    ∙ c.loop-line.invariant

pub returns : goal.returns
returns c = sym (first_value-nil c.args.name.now _ c.in-None.ensures.steps.0) ∙ c.loop-line.invariant
