use Rattle.std.proofs.Common.{length, ◌-◌}
use Rattle.rtsp_text.proofs.HeadEnds.{HasWalked}
use Rattle.rtsp_text.proofs.lines.head_end.Given as goal

abbrev pub invariant-loop-line : goal.invariant-loop-line
invariant-loop-line l = HasWalked l.message l.at

abbrev pub decreases-loop-line : goal.decreases-loop-line
decreases-loop-line l = length l.initial.message - l.at
