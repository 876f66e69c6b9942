-- What is handed on is the payloads of the frames.
use Rattle.std.proofs.Common.{◌≡◌, ℕ, List, [], ◌∷◌, ◌++◌, drop, refl, sym, ap, ◌∙◌}
use Rattle.std.proofs.lemmas.List.Concat.{flat_map-cons}
use Rattle.film_frames.specs.Laws.{payloads}
use Rattle.rtsp_client.specs.ClientHistory.{ClientEvent, Frame}
use Rattle.rtsp_client.specs.Answers.{payloads_of}
use Rattle.rtsp_client.specs.MeterGuarantee.{frames_of}

pub payloads-are : (moments : List ClientEvent) → payloads_of moments ≡ payloads (frames_of moments)
payloads-are [] = refl
payloads-are (Frame b ∷ moments) =
    ap (λ x. drop 20 b ++ x) (payloads-are moments)
    ∙ sym (flat_map-cons (λ (frame : List ℕ). drop 20 frame) b (frames_of moments))
payloads-are (_ ∷ moments) = payloads-are moments
