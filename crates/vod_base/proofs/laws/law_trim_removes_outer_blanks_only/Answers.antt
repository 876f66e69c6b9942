use Rattle.vod_base.proofs.TextLemmas.{trimmed_is}
use Rattle.vod_base.proofs.laws.law_trim_removes_outer_blanks_only.Goals as goal

pub returns : goal.returns
returns c = trimmed_is
