use Rattle.std.proofs.Common.{arith}
use Rattle.std.proofs.lemmas.Grind.{elements}
use Rattle.film_frames.proofs.tables.FrameTable.put_unit.Goals as goal

pub returns-clause-firsts : goal.returns-clause-firsts
returns-clause-firsts c = grind (arith, elements)
