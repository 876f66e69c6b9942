use Rattle.plan_cert.proofs.CertUniqueness.{exact_reading}
use Rattle.plan_cert.proofs.cert_reader.read_cert.Goals as goal

pub returns-clause-certificates : goal.returns-clause-certificates
returns-clause-certificates c = λ slots bytes segments certificate.
    exact_reading c.read_lines.result c.read_lines.ensures.read c.read_lines.ensures.refused certificate
