use Rattle.plan_cert.proofs.DecimalLemmas.{numbers_cut}
use Rattle.plan_cert.proofs.cert_reader.two_numbers.Goals as goal

pub returns-in_err-slots : goal.returns-in_err-slots
returns-in_err-slots c = rw c.from_residual-in_err-slots.ensures λ s numbers.
    let parts = numbers_cut c.args.text.now c.in_ok-first.first.now c.in_ok-first.second.now s c.in_ok-first.ensures
    numbers in
    c.in_err-slots.ensures s.slots numbers.few_slots parts.0

pub returns-in_err-bytes : goal.returns-in_err-bytes
returns-in_err-bytes c = rw c.from_residual-in_err-bytes.ensures λ s numbers.
    let parts = numbers_cut c.args.text.now c.in_ok-first.first.now c.in_ok-first.second.now s c.in_ok-first.ensures
    numbers in
    c.in_err-bytes.ensures s.bytes numbers.few_bytes parts.1
