use Rattle.std.proofs.Common.{arith}
use Rattle.slot_calendar.proofs.laws.law_plays_stay_within_capacity.Goals as goal

pub returns : goal.returns
returns c = λ calendar plays is stands t from. omega (arith, stands.each t from, is.within t from)
