use Rattle.conn.proofs.PlayProgress.{film_on}
use Rattle.conn.proofs.laws.law_film_bytes_follow_plan.Goals as goal

pub returns : goal.returns
returns c = film_on
