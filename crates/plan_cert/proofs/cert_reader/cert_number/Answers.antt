use Rattle.std.proofs.Common.{◌≡◌, ◌<◌, ◌^◌, length, slice_index, arith, sym, ap, subst, ◌∙◌}
use Rattle.vod_base.specs.Numbers.{number_of}
use Rattle.std.proofs.lemmas.Option.{none-some, same_Some}
use Rattle.vod_base.proofs.TextLemmas.{decimal_read, read_decimal}
use Rattle.plan_cert.proofs.DecimalLemmas.{no_leading_zero, lead_one}
use Rattle.plan_cert.proofs.cert_reader.cert_number.Goals as goal

pub returns-then-has_leading_zero : goal.returns-then-has_leading_zero
returns-then-has_leading_zero c = λ n few e.
    let lead = c.has_leading_zero.ensures.0 c.if-has_leading_zero.true in
    no_leading_zero n (omega arith) (subst (λ ds. 1 < length ds) e lead.0)
    (subst (λ ds. slice_index ds 0 ≡ 48) e lead.1)

pub returns-in-Ok : goal.returns-in-Ok
returns-in-Ok c = (
  omega arith,
  read_decimal c.args.digits.now c.in-Ok.n (sym c.in-Ok.ensures.number)
      (lead_one c.args.digits.now c.has_leading_zero.result c.if-has_leading_zero.false c.has_leading_zero.ensures.1),
)

pub returns-in_default : goal.returns-in_default
returns-in_default c = λ n few e.
    let small : n < 2 ^ 64 = omega arith in
    let same : c.in-Ok.n ≡ n = same_Some c.in-Ok.n n (c.in-Ok.ensures.number ∙ ap number_of e ∙ decimal_read n small) in
    omega (arith, same, few)

pub returns-in_default-2 : goal.returns-in_default-2
returns-in_default-2 c = λ n few e.
    let small : n < 2 ^ 64 = omega arith in
    none-some n (c.in_default.ensures.number ∙ ap number_of e ∙ decimal_read n small)
