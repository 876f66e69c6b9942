use Rattle.std.proofs.Common.{◌<◌, length, arith}
use Rattle.day_script.proofs.TriedStartTexts.{tried-step}
use Rattle.day_script.proofs.line_texts.push_all_tried.Goals as goal

pub loop-start-preserved : goal.loop-start-preserved
loop-start-preserved c =
    let inside : c.loop-start.start-index < length c.args.tried.now = omega arith in
    tried-step c.args.tried.now (record { index = c.loop-start.start-index; none = _; inside = inside }) _
    c.loop-start.invariant c.in_ok-push_tried.ensures
