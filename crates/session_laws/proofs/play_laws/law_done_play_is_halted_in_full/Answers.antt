use Rattle.std.proofs.Common.{arith}
use Rattle.session_laws.proofs.play_laws.law_done_play_is_halted_in_full.Goals as goal

pub returns : goal.returns
returns c = record {
  done = grind arith;
  whole = λ old setup play sound rest linked playing. grind arith;
  going = grind arith;
}
