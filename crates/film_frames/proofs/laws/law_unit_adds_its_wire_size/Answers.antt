use Rattle.film_frames.proofs.RunPrefixLemmas.{unit-blocks}
use Rattle.film_frames.proofs.laws.law_unit_adds_its_wire_size.Goals as goal

pub returns : goal.returns
returns c = λ film first_unit unit identity order within u. unit-blocks film identity order within
