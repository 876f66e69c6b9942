use Rattle.film_make.proofs.SizeLemmas.{intra-size, predicted-size, bidirectional-size}
use Rattle.film_make.proofs.laws.law_picture_sizes_are_bounded.Goals as goal

pub returns : goal.returns
returns c = record { intra = intra-size; predicted = predicted-size; bidirectional = bidirectional-size }
