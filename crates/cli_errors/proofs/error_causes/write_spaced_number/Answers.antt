use Rattle.std.proofs.Common.{◌∙◌, ◌++◌, List, ℕ, ap, codes}
use Rattle.std.proofs.lemmas.List.{append-nil}
use Rattle.cli_errors.proofs.StreamWriteLemmas.{said_as}
use Rattle.cli_errors.proofs.error_causes.write_spaced_number.Goals as goal

pub returns : goal.returns
returns g c =
    said_as (ap (λ (digits : List ℕ). codes " " ++ digits)
    (append-nil _ ∙ c.as_bytes.ensures.value ∙ c.format.ensures.text)) c.write_parts.ensures
