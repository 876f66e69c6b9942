use Rattle.film_make.proofs.SliceLemmas.{first-slices, other-slices}
use Rattle.film_make.proofs.laws.law_picture_has_four_slices.Goals as goal

pub returns : goal.returns
returns c = record { first = first-slices; other = other-slices }
