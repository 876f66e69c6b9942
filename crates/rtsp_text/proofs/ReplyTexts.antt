-- The text of a reply, part by part.
use Rattle.std.proofs.Common.{◌≡◌, ℕ, List, [], ◌∷◌, ◌++◌, codes, flat_map, Option, sym, ap, ◌∙◌}
use Rattle.std.proofs.lemmas.List.{append-nil, append_assoc}
use Rattle.std.proofs.lemmas.List.Concat.{flat_map-append}
use Rattle.rtsp_text.specs.Replies.{Field, field_line, sequence_line, status_line, reply_front, reply_text}

-- a part after another
pub two_put : {text : List ℕ} (old a b : List ℕ) → text ≡ old ++ a → text ++ b ≡ old ++ (a ++ b)
two_put old a b is = ap (λ t. t ++ b) is ∙ append_assoc old a b

-- a reply up to its last field grows by its fields
pub front_start : (code : ℕ) (sequence : Option ℕ) (old new : List ℕ)
    → new ≡ old ++ (status_line code ++ sequence_line sequence) → old ≡ [] → new ≡ reply_front code sequence []
unfolding reply_front
front_start code sequence old new h none =
    h ∙ ap (λ t. t ++ (status_line code ++ sequence_line sequence)) none
    ∙ sym (append-nil (status_line code ++ sequence_line sequence))

pub front_field : {old new : List ℕ} (code : ℕ) (sequence : Option ℕ) (fields : List Field) (field : Field) →
    new ≡ old ++ field_line field →
    old ≡ reply_front code sequence fields →
    new ≡ reply_front code sequence (fields ++ field ∷ [])
unfolding reply_front
front_field code sequence fields field h is =
    let more : flat_map field_line (fields ++ field ∷ []) ≡ flat_map field_line fields ++ field_line field =
    flat_map-append field_line fields (field ∷ [])
    ∙ ap (λ t. flat_map field_line fields ++ t) (append-nil (field_line field)) in
    h ∙ ap (λ t. t ++ field_line field) is
    ∙ append_assoc (status_line code ++ sequence_line sequence) (flat_map field_line fields) (field_line field)
    ∙ ap (λ t. (status_line code ++ sequence_line sequence) ++ t) (sym more)

pub whole_reply : {old new : List ℕ} (code : ℕ) (sequence : Option ℕ) (fields : List Field) (body : List ℕ) →
    new ≡ old ++ (codes "\r\n" ++ body) →
    old ≡ reply_front code sequence fields → new ≡ reply_text code sequence fields body
unfolding reply_text
whole_reply code sequence fields body h is =
    h ∙ ap (λ t. t ++ (codes "\r\n" ++ body)) is
    ∙ sym (append_assoc (reply_front code sequence fields) (codes "\r\n") body)
