use Rattle.film_frames.specs.FramedRuns.{run_pieces}
use Rattle.film_frames.proofs.EndedPieceLemmas.{count_ended-have}
use Rattle.film_frames.proofs.laws.law_ended_pieces_are_counted.Goals as goal

pub returns : goal.returns
returns c = λ run at. count_ended-have (run_pieces run) at
