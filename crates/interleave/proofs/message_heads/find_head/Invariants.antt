use Rattle.interleave.specs.Heads.{HasNoHead}
use Rattle.interleave.proofs.message_heads.find_head.Given as goal

abbrev pub invariant-loop-at : goal.invariant-loop-at
invariant-loop-at l = HasNoHead l.bytes l.at
