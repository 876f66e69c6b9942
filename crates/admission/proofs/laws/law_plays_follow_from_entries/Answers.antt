use Rattle.admission.proofs.HistoryPrefixes.{legal_history, halt_in, play_admitted_in}
use Rattle.admission.proofs.OpenPlays.{cut-after, halt-later, was-admitted, whole-after}
use Rattle.admission.proofs.laws.law_plays_follow_from_entries.Goals as goal

pub returns : goal.returns
returns c = record {
  admitted = was-admitted;
  whole =
      λ steps xs number start segments legal admission. whole-after (play_admitted_in (legal_history legal) admission);
  cut =
      λ steps xs number start keep i segments legal admission. cut-after
      (play_admitted_in (legal_history legal) admission);
  earlier = λ steps xs number keep i legal halt. halt-later
      (halt_in (legal_history legal) halt);
}
