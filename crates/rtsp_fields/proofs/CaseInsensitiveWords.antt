-- Words in any case.
use Rattle.std.proofs.Common.{◌≡◌, ℕ, ◌↔◌, List, length, take, sym, ◌∙◌}
use Rattle.std.proofs.lemmas.List.{take-map}
use Rattle.std.specs.Char.{to_ascii_lowercase}
use Rattle.rtsp_fields.specs.SeparatedParts.{Begins, in_lower_case}

-- a test of the first bytes, in any case, is one of the text in lower case
pub begins_by_test : (start text : List ℕ) (Holds : Type 0) → in_lower_case start ≡ start →
    Holds ↔ (in_lower_case (take (length start) text) ≡ in_lower_case start) → Holds ↔ Begins start (in_lower_case text)
begins_by_test start text Holds is_lower test =
    let lowered : take (length start) (in_lower_case text) ≡ in_lower_case (take (length start) text) =
    take-map to_ascii_lowercase (length start) text in
    (λ h. lowered ∙ test.0 h ∙ is_lower, λ b. test.1 (sym lowered ∙ b ∙ sym is_lower))
