use Rattle.plan_cert.proofs.DecimalLemmas.{number_from}
use Rattle.plan_cert.proofs.cert_reader.number_after.Goals as goal

pub returns : goal.returns
returns c =
    number_from c.cert_number.result c.args.word.now c.args.line.now c.in_ok-rest_after.field-0.now
    c.in_ok-rest_after.ensures
    c.cert_number.ensures
