use Rattle.std.proofs.Common.{arith}
use Rattle.session_laws.proofs.RtpNumberLemmas.{identity_goes_on}
use Rattle.session_laws.proofs.laws.law_rtp_numbers_continue.Goals as goal

pub returns : goal.returns
returns c = record {
  run = identity_goes_on;
  dropped = λ old stored setup paused planned is. grind arith;
}
