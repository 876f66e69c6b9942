use Rattle.film_run.proofs.RemainingRunLemmas.{goes-on-after, halted-plays, left-one}
use Rattle.film_run.proofs.UsedPictureLemmas.{counts-used}
use Rattle.film_run.proofs.laws.law_halt_leaves_one_playable_run.Goals as goal

pub returns : goal.returns
returns c = record {
  one = λ sizes playback run plan is last keep left other. left-one;
  plays = halted-plays;
  on = goes-on-after;
  used = counts-used;
}
