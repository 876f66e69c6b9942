use Rattle.cli_errors.proofs.ErrorLineReadBack.{message_told, own_line}
use Rattle.cli_errors.proofs.error_lines.law_error_line_determines_error.Goals as goal

pub returns : goal.returns
returns c = record { own = own_line; tells = message_told }
