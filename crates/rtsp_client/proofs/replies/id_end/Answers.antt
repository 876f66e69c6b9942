use Rattle.std.proofs.Common.{◌≡◌, ◌≤◌, ◌==◌, ℕ, length, Option, Some, None, cond, ltb, ap, ◌∙◌, arith}
use Rattle.std.specs.Prelude.{unwrap_or}
use Rattle.std.specs.List.{position_or_len}
use Rattle.std.proofs.lemmas.Bool.Decides.{nat_tests}
use Rattle.std.proofs.lemmas.List.Sums.{prefix_len-le-length}
use Rattle.rtsp_client.proofs.replies.id_end.Goals as goal

or-end : (at end : ℕ) → at ≤ end → unwrap_or (cond (ltb at end) (Some at) None) end ≡ at
or-end at end within = grind (arith, nat_tests)

pub returns-clause-end : goal.returns-clause-end
returns-clause-end c =
    let value = c.args.value.now in
    c.unwrap_or.ensures
    ∙ (ap (λ (place : Option ℕ). unwrap_or place (length value)) c.first_semicolon.ensures
    ∙ or-end (position_or_len (λ byte. byte == 59) value) (length value) (prefix_len-le-length _ value))
