use Rattle.conn.proofs.PlayGuarantees.{plays_kept}
use Rattle.conn.proofs.laws.law_sent_bytes_stay_between_curves.Goals as goal

pub returns : goal.returns
returns c = search plays_kept
