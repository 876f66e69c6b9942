use Rattle.std.proofs.Common.{◌∙◌, ◌++◌, ◌+◌, [], List, ℕ, ap}
use Rattle.std.specs.Prelude.{flat_map}
use Rattle.std.proofs.lemmas.List.{append-nil, take_all}
use Rattle.cli_errors.specs.StreamWrites.{number_text}
use Rattle.cli_errors.proofs.StreamWriteLemmas.{said_as, said_item, said_items_lost, said_lost, said_no_more}
use Rattle.cli_errors.proofs.error_causes.write_cause.Goals as goal

pub returns-in_err-write_parts : goal.returns-in_err-write_parts
returns-in_err-write_parts g c =
    said_lost c.from_residual.result c.from_residual.ensures.1
    (said_no_more (flat_map number_text c.args.numbers.now)
    (said_as (append-nil _ ∙ c.as_bytes.ensures.value) c.in_err-write_parts.ensures))

pub loop-number-init : goal.loop-number-init
loop-number-init g c = said_as (ap (λ (t : List ℕ). t ++ []) c.as_bytes.ensures.value) c.in_ok-write_parts.ensures

pub returns-in_err-write_spaced_number : goal.returns-in_err-write_spaced_number
returns-in_err-write_spaced_number g c =
    said_lost c.from_residual-in_err-write_spaced_number.result c.from_residual-in_err-write_spaced_number.ensures.1
    (said_items_lost c.args.name.now number_text c.args.numbers.now (c.loop-number.number-index + 1)
    (said_item c.args.name.now number_text c.args.numbers.now c.loop-number.number-index 0 c.loop-number-test.true
    c.loop-number.invariant c.in_err-write_spaced_number.ensures))

pub loop-number-preserved : goal.loop-number-preserved
loop-number-preserved g c =
    said_item c.args.name.now number_text c.args.numbers.now c.loop-number.number-index 0 c.loop-number-test.true
    c.loop-number.invariant c.in_ok-write_spaced_number.ensures

pub returns : goal.returns
returns g c =
    said_as (ap (λ (ns : List ℕ). c.args.name.now ++ flat_map number_text ns)
    (take_all c.loop-number.number-index c.args.numbers.now c.loop-number-test.false))
    c.loop-number.invariant
