use Rattle.vod_base.proofs.LineLemmas.{blank_is, is_blank_of}
use Rattle.vod_base.proofs.laws.law_blanks_are_space_and_tab.Goals as goal

pub returns : goal.returns
returns c = λ byte. (λ blank. blank_is byte blank, λ at. is_blank_of byte at)
