use Rattle.admission.proofs.PlayCounts.{tally}
use Rattle.admission.proofs.laws.law_counts_follow_from_entries.Goals as goal

pub returns : goal.returns
returns c = record {
  «open» = λ steps entries legal. (tally steps entries legal).0;
  now = λ steps entries legal. (tally steps entries legal).1;
}
