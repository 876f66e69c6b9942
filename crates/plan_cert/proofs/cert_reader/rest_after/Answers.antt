use Rattle.plan_cert.proofs.DecimalLemmas.{after_from}
use Rattle.plan_cert.proofs.cert_reader.rest_after.Goals as goal

pub returns : goal.returns
returns c = after_from (λ x. x.now) c.strip_prefix.result c.args.line.now c.args.word.now c.strip_prefix.ensures.cases
