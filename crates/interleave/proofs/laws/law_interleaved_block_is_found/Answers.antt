use Rattle.interleave.proofs.ConcatenatedInput.{is_block}
use Rattle.interleave.proofs.laws.law_interleaved_block_is_found.Goals as goal

pub returns : goal.returns
returns c = is_block
