use Rattle.mpeg_scan.proofs.UnitUniqueness.{one-list}
use Rattle.mpeg_scan.proofs.laws.law_units_are_unique.Goals as goal

pub returns : goal.returns
returns c = λ bytes units others one other. one-list bytes units others one other
