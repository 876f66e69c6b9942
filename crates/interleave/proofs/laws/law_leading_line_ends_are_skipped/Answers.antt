use Rattle.interleave.proofs.ConcatenatedInput.{skips}
use Rattle.interleave.proofs.laws.law_leading_line_ends_are_skipped.Goals as goal

pub returns : goal.returns
returns c = skips
