use Rattle.mpeg_scan.proofs.RateLemmas.{time-bounds}
use Rattle.mpeg_scan.proofs.laws.law_picture_times_match_the_rates.Goals as goal

pub returns-clause-bounds : goal.returns-clause-bounds
returns-clause-bounds c = time-bounds
