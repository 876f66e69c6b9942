use Rattle.std.proofs.lemmas.Grind.{common_steps}
use Rattle.std.proofs.Common.{refl, arith}
use Rattle.rtsp_text.specs.Replies.{value_named}
use Rattle.session_laws.proofs.laws.law_replies_have_the_station_numbers.Goals as goal

pub returns : goal.returns
unfolding value_named
returns c = record {
  overflow = grind arith;
  full = λ old entries live. record { fields = _; text_is = refl; entries_are = refl; open_is = refl };
  look = grind (arith, common_steps);
}
