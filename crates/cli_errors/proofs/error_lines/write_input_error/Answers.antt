use Rattle.std.proofs.Common.{◌∙◌, ◌≡◌, ◌++◌, Bool, List, Option, ℕ, ap, append_assoc, codes, sym}
use Rattle.cli_errors.specs.StreamWrites.{IsTextWritten}
use Rattle.cli_errors.specs.ErrorLines.{cause_text}
use Rattle.cli_errors.proofs.StreamWriteLemmas.{said_as, said_lost, said_no_more, said_then}
use Rattle.cli_errors.proofs.error_lines.write_input_error.Goals as goal

-- the head of a line, with the name as text
named : {faults faults' : ℕ} {told told' : Option (List ℕ)} {name name' : List ℕ} {whole : Bool} → name ≡ name' →
    IsTextWritten faults faults' told told' (codes "vodserve: " ++ (name ++ codes ": ")) whole →
    IsTextWritten faults faults' told told' (codes "vodserve: " ++ name' ++ codes ": ") whole
named {name} is said =
    said_as (sym (append_assoc (codes "vodserve: ") name (codes ": "))
    ∙ ap (λ (n : List ℕ). codes "vodserve: " ++ n ++ codes ": ") is) said

pub returns-in_err-write_parts-clause-said : goal.returns-in_err-write_parts-clause-said
returns-in_err-write_parts-clause-said g c =
    said_lost c.from_residual.result c.from_residual.ensures.1
    (said_no_more (codes "\n") (said_no_more (cause_text c.args.fault) (named c.as_bytes.ensures.value
    c.in_err-write_parts.ensures)))

pub returns-in_err-write_input_cause-clause-said : goal.returns-in_err-write_input_cause-clause-said
returns-in_err-write_input_cause-clause-said g c =
    said_lost c.from_residual-in_err-write_input_cause.result c.from_residual-in_err-write_input_cause.ensures.1
    (said_no_more (codes "\n")
    (said_then (named c.as_bytes.ensures.value c.in_ok-write_parts.ensures) c.in_err-write_input_cause.ensures.said))

pub returns-clause-said : goal.returns-clause-said
returns-clause-said g c =
    said_then (said_then (named c.as_bytes.ensures.value c.in_ok-write_parts.ensures)
    c.in_ok-write_input_cause.ensures.said) c.write_parts-2.ensures
