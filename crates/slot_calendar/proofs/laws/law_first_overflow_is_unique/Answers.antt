use Rattle.slot_calendar.proofs.FirstOverflow.{overflow-once}
use Rattle.slot_calendar.proofs.laws.law_first_overflow_is_unique.Goals as goal

pub returns : goal.returns
returns c = λ from start booked capacity segments a b x y. overflow-once x y
