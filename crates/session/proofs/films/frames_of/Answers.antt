use Rattle.std.proofs.Common.{arith}
use Rattle.std.proofs.lemmas.List.{drop-map, take-map}
use Rattle.session.proofs.films.frames_of.Goals as goal

pub returns-clause-bytes : goal.returns-clause-bytes
returns-clause-bytes c = search (arith, drop-map, take-map)
