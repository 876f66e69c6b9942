-- What stands before the same bytes.
use Rattle.std.proofs.Common.{◌≡◌, ℕ, List, length, take, Ok, sym, subst}
use Rattle.interleave.specs.Elements.{IsFirst, IsMessageLength}
use Rattle.interleave.specs.declared.elements.Step.TheVariants.{Request}
use Rattle.rtsp_text.proofs.WholeRequests.{first_taken}

pub whole-request : (b w : List ℕ) (n : ℕ) → IsFirst b (Ok (Request n)) → w ≡ b
    → IsMessageLength (take n w) (length (take n w))
whole-request b w n first same =
    subst (λ x. IsMessageLength (take n x) (length (take n x))) (sym same) (first_taken b n first)
