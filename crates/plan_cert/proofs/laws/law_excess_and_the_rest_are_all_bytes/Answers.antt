use Rattle.plan_cert.proofs.CertTextLemmas.{excess_parts, excess_none}
use Rattle.plan_cert.proofs.laws.law_excess_and_the_rest_are_all_bytes.Goals as goal

pub returns : goal.returns
returns c = record { parts = excess_parts; none = excess_none }
