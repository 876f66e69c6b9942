use Rattle.std.proofs.Common.{arith, sym, below_more}
use Rattle.interleave.proofs.HeadSearchResults.{found_head}
use Rattle.interleave.proofs.message_heads.find_head.Goals as goal

pub returns-then-empty_line_ends : goal.returns-then-empty_line_ends
returns-then-empty_line_ends c = (
  omega arith,
  found_head c.args.bytes.now c.loop-at.at (omega (arith, c.requires.within))
      (sym c.if-empty_line_ends.ensures) c.loop-at.invariant,
)

pub loop-at-preserved : goal.loop-at-preserved
loop-at-preserved c = below_more _ _ c.loop-at.invariant (sym c.if-empty_line_ends.ensures)
