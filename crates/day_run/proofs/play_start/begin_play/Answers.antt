use Rattle.std.proofs.Common.{arith}
use Rattle.day_run.proofs.play_start.begin_play.Goals as goal

pub as_sending-requires : goal.as_sending-requires
as_sending-requires c = omega (arith, c.requires.rest.end)

pub new-pacer-requires : goal.new-pacer-requires
new-pacer-requires c = grind arith

pub returns : goal.returns
returns c = grind arith
