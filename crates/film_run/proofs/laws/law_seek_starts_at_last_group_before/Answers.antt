use Rattle.film_run.proofs.SeekTimeLemmas.{seeks_run}
use Rattle.film_run.proofs.laws.law_seek_starts_at_last_group_before.Goals as goal

pub returns : goal.returns
returns c = λ film from to run. seeks_run
