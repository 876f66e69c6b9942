use Rattle.vod_base.proofs.LineLemmas.{first_found, none_found}
use Rattle.vod_base.proofs.laws.law_first_file_of_a_name_counts.Goals as goal

pub returns : goal.returns
returns c = record { first = first_found; none = none_found }
