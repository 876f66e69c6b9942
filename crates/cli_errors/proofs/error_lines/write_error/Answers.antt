use Rattle.std.proofs.Common.{append_assoc}
use Rattle.cli_errors.proofs.error_lines.write_error.Goals as goal

pub returns-in-StoreFault-clause-said : goal.returns-in-StoreFault-clause-said
returns-in-StoreFault-clause-said g c =
    rw (c.in-StoreFault.is, append_assoc, ← c.as_bytes.ensures.value) c.write_parts-in-StoreFault.ensures
