use Rattle.std.proofs.Common.{◌≡◌, ℕ, false, arith}
use Rattle.std.proofs.lemmas.Bool.Decides.{nat_tests}
use Rattle.std.proofs.lemmas.Grind.{common_steps}
use Rattle.session.proofs.SharedTerms.{after_slot, is_taken, SessionState}
use Rattle.session_laws.proofs.play_laws.law_only_later_slots_are_processed.Goals as goal

not_taken : (old : SessionState) (slot : ℕ) → is_taken old slot ≡ false → after_slot old slot ≡ old
not_taken old slot is = grind arith

pub returns : goal.returns
returns c = record {
  later = grind (arith, common_steps);
  past = λ old slot past. not_taken old slot (grind (arith, nat_tests));
  above = λ old slot above. not_taken old slot (grind (arith, nat_tests));
}
