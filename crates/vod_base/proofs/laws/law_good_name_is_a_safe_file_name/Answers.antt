use Rattle.vod_base.proofs.TextLemmas.{good_is_plain}
use Rattle.vod_base.proofs.laws.law_good_name_is_a_safe_file_name.Goals as goal

pub returns : goal.returns
returns c = good_is_plain
