use Rattle.std.proofs.Common.{append_assoc}
use Rattle.std.proofs.lemmas.List.{append-nil}
use Rattle.cli_errors.proofs.error_lines.write_number.Goals as goal

pub returns : goal.returns
returns g c =
    rw append_assoc
    (simp (append-nil, c.as_bytes.ensures.value, c.as_bytes-digits.ensures.value, c.format.ensures.text) at
    c.write_parts.ensures)
