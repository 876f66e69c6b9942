use Rattle.vod_base.proofs.AppendLemmas.{all_or_none, cut_before, handed_on, then_appended}
use Rattle.vod_base.proofs.appends.push_field.Goals as goal

pub returns-in_err-push : goal.returns-in_err-push
returns-in_err-push c = handed_on c.from_residual.result c.from_residual.ensures.0 (cut_before _ c.in_err-push.ensures)

pub returns : goal.returns
returns c =
    then_appended c.args.label.now c.in_ok-push.ensures.whole
    (all_or_none c.push_number.result c.push_number.ensures.whole c.push_number.ensures.kept)
