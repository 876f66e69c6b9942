use Rattle.std.proofs.Common.{◌≡◌, ◌<◌, length, arith, sym, ◌∙◌, true, get_or}
use Rattle.inputs.specs.Traces.{is_white_space}
use Rattle.inputs.proofs.FirstWordLemmas.{DigitsInFront, no_digits, not_whole, too_large, whole_word}
use Rattle.inputs.proofs.traces.number_in_front.Goals as goal
use Rattle.inputs.proofs.traces.number_in_front.Goals.{then-number-eq0-via-then-number-eq0}
use Rattle.inputs.proofs.traces.number_in_front.Goals.{then-number-eq0-via-else-number-eq0+then-number-gt-MAX_SIZE}
use Rattle.inputs.proofs.traces.number_in_front.Goals.{else-number-rest-via-then-number-rest+else-not-is_white_space}
use Rattle.inputs.proofs.traces.number_in_front.Goals.{else-number-rest-via-else-number-rest}

pub returns-then-number-eq0 : goal.returns-then-number-eq0
returns-then-number-eq0 c = λ size written.
    let number = c.digits_in_front-number.result in
    let read = c.digits_in_front-number.ensures in
    let front : DigitsInFront c.args.rest.now =
    record { k = number.len; value = number.value; digits = read.digits; value_is = read.value } in
    elim c.then-number-eq0.branch [
      | then-number-eq0-via-then-number-eq0 w ↦
          no_digits front (omega (arith, w.if-number-eq0.true)) read.ends written
      | then-number-eq0-via-else-number-eq0+then-number-gt-MAX_SIZE w ↦
          too_large front read.within (omega (arith, w.if-number-gt-MAX_SIZE.true)) written
    ]

pub returns-then-not-is_white_space : goal.returns-then-not-is_white_space
returns-then-not-is_white_space c =
    let number = c.digits_in_front-number.result in
    let read = c.digits_in_front-number.ensures in
    let front : DigitsInFront c.args.rest.now =
    record { k = number.len; value = number.value; digits = read.digits; value_is = read.value } in
    not_whole front (omega (arith, c.if-number-rest.true))
    (sym c.is_white_space.ensures ∙ c.if-not-is_white_space.true) read.ends

pub returns : goal.returns
returns c =
    let number = c.digits_in_front-number.result in
    let read = c.digits_in_front-number.ensures in
    let front : DigitsInFront c.args.rest.now =
    record { k = number.len; value = number.value; digits = read.digits; value_is = read.value } in
    let ends : number.len < length c.args.rest.now → is_white_space (get_or c.args.rest.now number.len 0) ≡ true =
    λ inside.
    elim c.else-number-rest.branch [
      | else-number-rest-via-then-number-rest+else-not-is_white_space w ↦ sym w.is_white_space.ensures
          ∙ w.if-not-is_white_space.false
      | else-number-rest-via-else-number-rest w ↦ absurd (omega (arith, w.if-number-rest.false, inside))
    ] in
    whole_word front (omega (arith, c.if-number-eq0.false)) read.within
    (omega (arith, c.if-number-gt-MAX_SIZE.false)) ends
