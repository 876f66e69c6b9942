use Rattle.std.proofs.Common.{length}
use Rattle.rtsp_text.proofs.HeadEnds.{walk_first, walk_more, walk_end, next_ends}
use Rattle.rtsp_text.proofs.lines.head_end.Goals as goal

pub loop-line-init : goal.loop-line-init
loop-line-init c = walk_first _ _ _ c.in-Some.ensures.found

pub returns-then-line-at-clause-split : goal.returns-then-line-at-clause-split
returns-then-line-at-clause-split c =
    walk_end c.args.message.now c.loop-line.at c.in-Some-line_end.line.next c.loop-line.invariant
    (rw c.if-line-at.true at c.in-Some-line_end.ensures.found)

pub loop-line-preserved : goal.loop-line-preserved
loop-line-preserved c =
    walk_more c.loop-line.invariant
    (record { end = _; line = c.in-Some-line_end.ensures.found; some = c.if-line-at.false })

-- each line has an end, and so does a complete request's head
pub returns-clause-split : goal.returns-clause-split
returns-clause-split c =
    absurd (next_ends c.args.message.now c.loop-line.at (length c.args.message.now) c.requires c.loop-line.invariant
    c.in_default-line_end.ensures.none)
