use Rattle.std.proofs.Common.{◌++◌}
use Rattle.vod_base.specs.Fields.{field}
use Rattle.vod_base.proofs.AppendLemmas.{both, cut_before, handed_on, then_appended}
use Rattle.report.proofs.number_fields.push_fields.Goals as goal

pub returns-in_err-push_field : goal.returns-in_err-push_field
returns-in_err-push_field c =
    handed_on c.from_residual.result c.from_residual.ensures.0
    (cut_before (field c.args.three.0.now c.args.three.1)
    (cut_before (field c.args.two.0.now c.args.two.1) c.in_err-push_field.ensures))

pub returns-in_err-push_field-2 : goal.returns-in_err-push_field-2
returns-in_err-push_field-2 c =
    let first = field c.args.one.0.now c.args.one.1 in
    let third = field c.args.three.0.now c.args.three.1 in
    handed_on c.from_residual-in_err-push_field-2.result c.from_residual-in_err-push_field-2.ensures.0
    (cut_before third (then_appended first c.in_ok-push_field.ensures.whole c.in_err-push_field-2.ensures))

pub returns : goal.returns
returns c =
    let first = field c.args.one.0.now c.args.one.1 in
    let second = field c.args.two.0.now c.args.two.1 in
    then_appended (first ++ second)
    (both _ first second c.in_ok-push_field.ensures.whole c.in_ok-push_field-2.ensures.whole) c.push_field-3.ensures
