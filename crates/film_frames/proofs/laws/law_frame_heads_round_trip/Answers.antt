use Rattle.film_frames.proofs.RunPrefixLemmas.{heads-back}
use Rattle.film_frames.proofs.laws.law_frame_heads_round_trip.Goals as goal

pub returns : goal.returns
returns c = heads-back
