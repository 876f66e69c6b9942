use Rattle.plan_cert.proofs.CertTextLemmas.{text_lines, one_list}
use Rattle.plan_cert.proofs.laws.law_certificate_text_is_unique.Goals as goal

pub returns : goal.returns
returns c = record { lines = text_lines; one = one_list }
