-- The header bytes of each start code are the film's bytes after it.
use Rattle.std.proofs.Common.{ℕ, suc, true, false, ltb, min, ◌+◌, ◌-◌, ◌<◌, ◌≤◌, ◌≡◌, List, [], ◌∷◌, ◌++◌, length}
use Rattle.std.proofs.Common.{get_or, length-append, sym, ◌∙◌, ap, subst, inl, inr, arith}
use Rattle.std.proofs.lemmas.Bool.{cases_Bool, cases_lt, ltb-true, ltb-false}
use Rattle.std.proofs.lemmas.List.{get_or_append_left, get_or_default}
use Rattle.std.proofs.Math.Seq.{get_or-append_seam}
use Rattle.mpeg_scan.specs.declared.codes.Code.{Code}
use Rattle.mpeg_scan.specs.StartCodes.{latest_prefix, is_whole, note, note_latest, codes_of}
use Rattle.mpeg_scan.proofs.CodeLemmas.{noted-by}
use Rattle.mpeg_scan.proofs.ScanStepLemmas.{codes-none, codes-plain, codes-code}
use Rattle.mpeg_scan.proofs.CodePlaceLemmas.{at, at-last, at-older, whole-prefixed}

-- a code's header bytes are the first five after it, as far as a place
pub record HeaderIs (r : List ℕ) (stop : ℕ) (c : Code) : Type 0 where
  pub after : c.place + 4 ≤ stop
  pub within : stop ≤ length r
  pub count : length c.header ≡ min 5 (stop - (c.place + 4))
  pub each : (k : ℕ) → k < length c.header → get_or c.header k 0 ≡ at r (c.place + 4 + k)

-- those of the latest code go as far as this place, and each other one's to the value of the code after it
abbrev pub HeadersAre : List ℕ → ℕ → List Code → Type 0
HeadersAre r stop [] = Unit {0}
HeadersAre r stop (c ∷ past) = HeaderIs r stop c × HeadersAre r (c.place + 4) past

header-stays : (x : ℕ) (r : List ℕ) (stop : ℕ) (c : Code) → HeaderIs r stop c → HeaderIs (x ∷ r) stop c
header-stays x r stop c is = record {
  after = is.after;
  within = omega (arith, is.within);
  count = is.count;
  each = λ k below. is.each k below
      ∙ sym (at-older x r (c.place + 4 + k) (λ e. absurd (omega (arith, is.within, is.after, is.count))));
}

headers-stay : (x : ℕ) (r : List ℕ) (stop : ℕ) (past : List Code) → HeadersAre r stop past
    → HeadersAre (x ∷ r) stop past
headers-stay x r stop [] are = tt
headers-stay x r stop (c ∷ past) are = (header-stays x r stop c are.0, headers-stay x r (c.place + 4) past are.1)

-- one byte more
room-more : (x : ℕ) (r : List ℕ) (c : Code) → length c.header < 5 → HeaderIs r (length r) c
    → HeaderIs (x ∷ r) (suc (length r)) (record c { header = c.header ++ x ∷ [] })
room-more x r c room is = record {
  after = omega (arith, is.after);
  within = omega arith;
  count = omega (arith, length-append c.header (x ∷ []), is.count, is.after);
  each = λ k below. elim (cases_lt k (length c.header)) [
    | inl older ↦ get_or_append_left c.header (x ∷ []) 0 k older ∙ is.each k older
        ∙ sym (at-older x r (c.place + 4 + k) (λ e. absurd (omega (arith, is.after, is.count))))
    | inr last ↦
        (let here : k ≡ length c.header = omega (arith, last, below, length-append c.header (x ∷ [])) in
        let place : c.place + 4 + k ≡ length r = omega (arith, here, is.count, is.after, room) in
        let same : get_or (c.header ++ x ∷ []) k 0 ≡ x =
        ap (λ n. get_or (c.header ++ x ∷ []) n 0) here ∙ get_or-append_seam c.header x [] 0 in
        same ∙ sym (at-last x r (c.place + 4 + k) place))
  ];
}

full-more : (x : ℕ) (r : List ℕ) (c : Code) → 5 ≤ length c.header → HeaderIs r (length r) c
    → HeaderIs (x ∷ r) (suc (length r)) c
full-more x r c full is = record {
  after = omega (arith, is.after);
  within = omega arith;
  count = omega (arith, is.count);
  each = λ k below. is.each k below
      ∙ sym (at-older x r (c.place + 4 + k) (λ e. absurd (omega (arith, is.after, is.count, below))));
}

header-more : (x : ℕ) (r : List ℕ) (c : Code) → HeaderIs r (length r) c → HeaderIs (x ∷ r) (suc (length r)) (note c x)
header-more x r c is = elim (cases_Bool (ltb (length c.header) 5)) [
  | inl room ↦
      subst (λ (t : List ℕ). HeaderIs (x ∷ r) (suc (length r)) (record c { header = t }))
      (sym (noted-by true c.header x room)) (room-more x r c (ltb-true (length c.header) 5 room) is)
  | inr full ↦
      subst (λ (t : List ℕ). HeaderIs (x ∷ r) (suc (length r)) (record c { header = t }))
      (sym (noted-by false c.header x full)) (full-more x r c (ltb-false (length c.header) 5 full) is)
]

headers-more : (x : ℕ) (r : List ℕ) (past : List Code) → HeadersAre r (length r) past
    → HeadersAre (x ∷ r) (suc (length r)) (note_latest past x)
headers-more x r [] are = tt
headers-more x r (c ∷ past) are = (header-more x r c are.0, headers-stay x r (c.place + 4) past are.1)

pub codes-headers : (r : List ℕ) → HeadersAre r (length r) (codes_of r)
codes-headers [] = subst (λ (l : List Code). HeadersAre [] 0 l) (sym codes-none) tt
codes-headers (x ∷ r) = elim (cases_Bool (is_whole (latest_prefix r))) [
  | inl e ↦ (let ends = (whole-prefixed r e).ends in
      let new : Code = record { place = length r - 3; value = x; header = [] } in
      let stop : suc (length r) ≡ new.place + 4 = omega (arith, ends) in
      let one : HeaderIs (x ∷ r) (suc (length r)) new =
      record {
        after = omega (arith, ends);
        within = omega arith;
        count = omega (arith, ends);
        each = λ k below. absurd (omega (arith, below));
      } in
      subst (λ (l : List Code). HeadersAre (x ∷ r) (suc (length r)) l) (sym (codes-code x r e)) (
        one,
        subst (λ s. HeadersAre (x ∷ r) s (note_latest (codes_of r) x)) stop
            (headers-more x r (codes_of r) (codes-headers r)),
      ))
  | inr e ↦ subst (λ (l : List Code). HeadersAre (x ∷ r) (suc (length r)) l) (sym (codes-plain x r e))
      (headers-more x r (codes_of r) (codes-headers r))
]

-- the bytes, given the latest first, and in order
pub record Same (bytes r : List ℕ) : Type 0 where
  pub byte : (i : ℕ) → at r i ≡ get_or bytes i 256
  pub long : length r ≡ length bytes

-- a header byte is the film's
pub header-byte : {bytes r : List ℕ} {stop : ℕ} {c : Code} (k : ℕ) → Same bytes r → k < 5 → c.place + 4 + k < stop
    → HeaderIs r stop c → get_or c.header k 0 ≡ get_or bytes (c.place + 4 + k) 0
header-byte {bytes} {c} k same small below is =
    let there : k < length c.header = omega (arith, is.count) in
    is.each k there ∙ same.byte (c.place + 4 + k)
    ∙ get_or_default bytes (c.place + 4 + k) 256 0 (omega (arith, is.within, below, same.long))
