use Rattle.interleave.proofs.SkippedLineEnds.{skip_stays}
use Rattle.interleave.proofs.laws.law_skipped_bytes_only_grow.Goals as goal

pub returns : goal.returns
returns c = skip_stays
