use Rattle.std.proofs.Common.{◌++◌, codes}
use Rattle.vod_base.specs.Fields.{field}
use Rattle.vod_base.proofs.AppendLemmas.{both, cut_before, handed_on, then_appended}
use Rattle.report.proofs.calendars.push_slot.Goals as goal

pub returns-in_err-push_field : goal.returns-in_err-push_field
returns-in_err-push_field c =
    handed_on c.from_residual.result c.from_residual.ensures.0
    (cut_before (codes "\n") (cut_before (field (codes " booked=") c.args.booked) c.in_err-push_field.ensures))

pub returns-in_err-push_field-2 : goal.returns-in_err-push_field-2
returns-in_err-push_field-2 c =
    handed_on c.from_residual-in_err-push_field-2.result c.from_residual-in_err-push_field-2.ensures.0
    (cut_before (codes "\n")
    (then_appended (field (codes "at ") c.args.slot) c.in_ok-push_field.ensures.whole c.in_err-push_field-2.ensures))

pub returns : goal.returns
returns c =
    let slot = field (codes "at ") c.args.slot in
    let booked = field (codes " booked=") c.args.booked in
    then_appended (slot ++ booked)
    (both _ slot booked c.in_ok-push_field.ensures.whole c.in_ok-push_field-2.ensures.whole) c.push.ensures
