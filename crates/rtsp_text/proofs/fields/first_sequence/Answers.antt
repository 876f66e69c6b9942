use Rattle.std.proofs.Common.{sym, ap, codes, ◌∙◌}
use Rattle.std.specs.Prelude.{option_and_then}
use Rattle.vod_base.specs.Numbers.{number_of}
use Rattle.rtsp_text.specs.Fields.{first_number}
use Rattle.rtsp_text.proofs.HeaderValues.{first_number-nil, first_number_some, first_number_more}
use Rattle.rtsp_text.proofs.fields.first_sequence.Goals as goal

pub returns-in-Some-number_in : goal.returns-in-Some-number_in
returns-in-Some-number_in c =
    sym (ap (first_number (codes "CSeq")) c.in-Some.ensures.steps ∙ first_number_some (codes "CSeq") _ _
    (ap (option_and_then number_of) (sym c.value_in.ensures) ∙ sym c.in-Some-number_in.ensures)) ∙ c.loop-line.invariant

pub loop-line-preserved : goal.loop-line-preserved
loop-line-preserved c =
    sym (first_number_more (codes "CSeq") _ _ _ c.in-Some.ensures.steps
    (ap (option_and_then number_of) (sym c.value_in.ensures) ∙ sym c.in_default.ensures)) ∙ c.loop-line.invariant

pub returns : goal.returns
returns c = sym (first_number-nil (codes "CSeq") _ c.in-None.ensures.steps.0) ∙ c.loop-line.invariant
