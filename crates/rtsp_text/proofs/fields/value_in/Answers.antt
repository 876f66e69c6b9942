use Rattle.std.proofs.Common.{Some, sym, ap, ◌∙◌}
use Rattle.rtsp_text.proofs.HeaderValues.{value_some, value_other, value_none}
use Rattle.rtsp_text.proofs.fields.value_in.Goals as goal
use Rattle.rtsp_text.proofs.fields.value_in.Goals.{in_default-via-in-Some+else-is_same_name, in_default-via-in_default}

pub returns-in-Some : goal.returns-in-Some
returns-in-Some c =
    ap Some c.trim.ensures
    ∙ sym (value_some c.args.name.now c.args.line.now c.in-Some.front.now c.in-Some.value.now c.in-Some.ensures
    (sym c.is_same_name.ensures ∙ c.if-is_same_name.true))

pub returns-in_default : goal.returns-in_default
returns-in_default c =
    elim c.in_default.branch [
      | in_default-via-in-Some+else-is_same_name w ↦
          sym (value_other c.args.name.now c.args.line.now w.in-Some.front.now w.in-Some.value.now
          w.in-Some.ensures (sym w.is_same_name.ensures ∙ w.if-is_same_name.false))
      | in_default-via-in_default w ↦ sym (value_none c.args.name.now c.args.line.now w.in_default.ensures)
    ]
