use Rattle.film_frames.proofs.RunPrefixLemmas.{run-front}
use Rattle.film_frames.proofs.laws.law_shorter_run_is_a_prefix.Goals as goal

pub returns : goal.returns
returns c = run-front
