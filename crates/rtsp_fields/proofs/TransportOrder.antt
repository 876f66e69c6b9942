-- The alternatives of a Transport value are tried in their order, and what isn't taken.
use Rattle.std.proofs.Common.{◌≡◌, ◌≢◌, ℕ, ◌+◌, ◌-◌, true, List, ◌∷◌, ◌++◌, codes, length, get_or, slice_range, refl}
use Rattle.std.proofs.Common.{sym, ap, subst, ◌∙◌, arith, inl, inr}
use Rattle.std.specs.List.{list_all}
use Rattle.std.proofs.lemmas.List.{append_assoc, take_all}
use Rattle.rtsp_fields.specs.Laws.{HasNoComma}
use Rattle.rtsp_fields.specs.SeparatedParts.{HasNone}
use Rattle.rtsp_fields.specs.Transports.{CanBeTaken, AsksOtherDelivery, IsDelivery, IsTransport, part_word}
use Rattle.rtsp_fields.specs.declared.transports.Channels.{Channels}
use Rattle.rtsp_fields.proofs.SeparatedTexts.{none_before, none_from, other_than, part_first, part_later, part_whole}
use Rattle.rtsp_fields.proofs.SeparatedTexts.{slice_first, slice_later, text_of, whole_slice}
use Rattle.rtsp_fields.proofs.TransportTexts.{alone}

comma_free : (text : List ℕ) → HasNoComma text → HasNone 44 text 0 (length text)
unfolding other_than
comma_free text none = none_from 44 text none

-- the one alternative of a value without a comma
one_taken : (text : List ℕ) (channels : Channels) → HasNoComma text → IsTransport text channels
    → IsDelivery text channels
one_taken text channels none t =
    subst (λ (s : List ℕ). IsDelivery s channels)
    (whole_slice 44 text t.from t.to (comma_free text none) t.part) t.taken

text_is : (first rest : List ℕ) → text_of 44 first rest ≡ first ++ codes "," ++ rest
unfolding text_of
text_is first rest = sym (append_assoc first (codes ",") rest)

pub first_taken : (first rest : List ℕ) (channels : Channels) → HasNoComma first → IsTransport first channels
    → IsTransport (first ++ codes "," ++ rest) channels
first_taken first rest channels none is = subst (λ (t : List ℕ). IsTransport t channels) (text_is first rest) (record {
  from = 0;
  to = length first;
  part = part_first 44 first rest (comma_free first none);
  taken = subst (λ (t : List ℕ). IsDelivery t channels) (sym (slice_first 44 first rest))
      (one_taken first channels none is);
  first = λ k end below p. absurd (omega (arith, below));
})

pub later_taken : (first rest : List ℕ) (channels : Channels) → HasNoComma first
    → ((any : Channels) → ¬ IsTransport first any) → IsTransport rest channels
    → IsTransport (first ++ codes "," ++ rest) channels
later_taken first rest channels none refused is =
    let free = comma_free first none in
    subst (λ (t : List ℕ). IsTransport t channels) (text_is first rest) (record {
      from = length first + 1 + is.from;
      to = length first + 1 + is.to;
      part = part_later 44 first rest is.from is.to is.part;
      taken = subst (λ (t : List ℕ). IsDelivery t channels)
          (sym (slice_later 44 first rest is.from is.to is.part.end.after)) is.taken;
      first = none_before CanBeTaken free (λ can. refused can.0 (alone first can.0 free can.1)) is.first;
    })

-- an alternative whose last part asks for another thing isn't taken
pub not_taken : (front part : List ℕ) (channels : Channels) → HasNoComma (front ++ codes ";" ++ part)
    → list_all (other_than 59) part ≡ true → AsksOtherDelivery part
    → ¬ IsTransport (front ++ codes ";" ++ part) channels
unfolding text_of
not_taken front part channels none plain other = λ is.
    let text = text_of 59 front part in
    let same : front ++ codes ";" ++ part ≡ text = append_assoc front (codes ";") part in
    let taken : IsDelivery text channels =
    subst (λ (t : List ℕ). IsDelivery t channels) same (one_taken (front ++ codes ";" ++ part) channels none is) in
    let stands = part_later 59 front part 0 (length part) (part_whole 59 part (none_from 59 part plain)) in
    let is_part : slice_range text (length front + 1 + 0) (length front + 1 + length part) ≡ part =
    slice_later 59 front part 0 (length part) (omega arith) ∙ take_all (length part - 0) part (omega arith) in
    taken.plain (length front + 1 + 0) (length front + 1 + length part) stands
    (subst AsksOtherDelivery (sym is_part) other)

-- the same of a part that is written with its `;`
written_not_taken : (front part : List ℕ) (channels : Channels) → HasNoComma (front ++ (codes ";" ++ part))
    → list_all (other_than 59) part ≡ true → AsksOtherDelivery part
    → ¬ IsTransport (front ++ (codes ";" ++ part)) channels
written_not_taken front part channels none plain other = λ is.
    let same : front ++ (codes ";" ++ part) ≡ front ++ codes ";" ++ part = sym (append_assoc front (codes ";") part) in
    not_taken front part channels (subst HasNoComma same none) plain other
    (subst (λ (t : List ℕ). IsTransport t channels) same is)

pub multicast_not_taken : (front : List ℕ) (channels : Channels) → HasNoComma (front ++ codes ";multicast")
    → ¬ IsTransport (front ++ codes ";multicast") channels
unfolding other_than
multicast_not_taken front channels none = written_not_taken front (codes "multicast") channels none refl (inl refl)

-- the sixth byte distinguishes the modes
other_mode : (byte : ℕ) (rest : List ℕ) → byte ≢ 114 → part_word (codes "mode=record") ≢ codes "mode=" ++ byte ∷ rest
other_mode byte rest other = λ e. other (sym (ap (λ (l : List ℕ). get_or l 5 0) e))

pub record_not_taken : (front : List ℕ) (channels : Channels) → HasNoComma (front ++ codes ";mode=record")
    → ¬ IsTransport (front ++ codes ";mode=record") channels
unfolding other_than
record_not_taken front channels none =
    written_not_taken front (codes "mode=record") channels none refl
    (inr (refl, other_mode 112 (codes "lay") (omega arith), other_mode 34 (codes "play\"") (omega arith)))
