use Rattle.std.proofs.Common.{arith, ◌∙◌}
use Rattle.vod_base.proofs.LinkLogLemmas.{noted_more}
use Rattle.vod_base.proofs.memory_links.log_sent.Goals as goal

pub loop-byte-preserved : goal.loop-byte-preserved
loop-byte-preserved c = (
  c.push_reserved.ensures.items ∙ noted_more c.args.notes.now.items c.args.bytes.now c.loop-byte.byte-index
      c.loop-byte-test.true c.loop-byte.invariant.0,
  omega (arith, c.push_reserved.ensures.len, c.loop-byte.invariant.1),
  omega (arith, c.push_reserved.ensures.capacity, c.loop-byte.invariant.2),
)
