use Rattle.std.proofs.Common.{arith}
use Rattle.slot_calendar.specs.Plays.{truncated_play}
use Rattle.slot_calendar.proofs.PlayShares.{booked-cut}
use Rattle.slot_calendar.proofs.laws.law_booked_plan_can_be_released.Goals as goal

pub returns : goal.returns
returns c = λ calendar before after segments start keep stands t from.
    omega (arith, stands.each t from, booked-cut before after (truncated_play start segments keep) t)
