-- The bytes of a picture.
use Rattle.std.proofs.Common.{ℕ, cond, eqb, ◌+◌, ◌*◌, ◌%◌, ◌<◌, ◌≤◌, ◌≡◌, List, [], ◌∷◌, ◌++◌, length, refl, ◌∙◌, ap}
use Rattle.std.proofs.Common.{arith, eq-eqb, ne_eqb}
use Rattle.std.proofs.lemmas.List.{length-append}
use Rattle.std.proofs.lemmas.List.FromFn.{length-map-range_with_len}
use Rattle.film_make.specs.declared.pictures.CodingType.{CodingType}
use Rattle.film_make.specs.declared.pictures.CodingType.TheVariants.{Intra, Predicted, Bidirectional}
use Rattle.film_make.specs.Film.{body_length, body_of, coding_type, in_bytes, picture_fields, picture_header}
use Rattle.film_make.specs.Film.{picture_of, sequence_and_group, slice_of, slice_words, slices_of, temporal_reference}
use Rattle.film_make.specs.Generator.{words_after, end_to_end}

-- a slice of a kind of picture has a length within these bounds
slice-length : (words : ℕ → ℕ) (kind : CodingType) (code : ℕ)
    → length (slice_of words kind code) ≡ 4 + body_length words kind
unfolding slice_of body_of
slice-length words kind code =
    let body =
    length-map-range_with_len (λ i. 128 + words_after 1 words i % 128) 0 (body_length words kind) in omega (arith, body)

-- a length of a body
record HasBounds (least most length : ℕ) : Type 0 where
  low : least ≤ length
  high : length ≤ most

intra-body : (words : ℕ → ℕ) → HasBounds 300 1499 (body_length words Intra)
unfolding body_length
intra-body words = record { low = omega arith; high = omega arith }

predicted-body : (words : ℕ → ℕ) → HasBounds 60 459 (body_length words Predicted)
unfolding body_length
predicted-body words = record { low = omega arith; high = omega arith }

bidirectional-body : (words : ℕ → ℕ) → HasBounds 30 229 (body_length words Bidirectional)
unfolding body_length
bidirectional-body words = record { low = omega arith; high = omega arith }

-- four slices
slices-length : (words : ℕ → ℕ) (kind : CodingType) (least most : ℕ)
    → ((w : ℕ → ℕ) → HasBounds least most (body_length w kind))
    → HasBounds (4 * (4 + least)) (4 * (4 + most)) (length (slices_of words kind 4))
unfolding end_to_end
slices-length words kind least most body =
    let w = slice_words kind words in
    let s : ℕ → List ℕ = λ k. slice_of (w k) kind (k + 1) in
    let sum : length (s 0 ++ (s 1 ++ (s 2 ++ (s 3 ++ []))))
    ≡ length (s 0) + (length (s 1) + (length (s 2) + (length (s 3) + 0))) =
    length-append (s 0) (s 1 ++ (s 2 ++ (s 3 ++ [])))
    ∙ ap (λ n. length (s 0) + n) (length-append (s 1) (s 2 ++ (s 3 ++ []))
    ∙ ap (λ n. length (s 1) + n) (length-append (s 2) (s 3 ++ [])
    ∙ ap (λ n. length (s 2) + n) (length-append (s 3) []))) in
    let a = slice-length (w 0) kind 1 in
    let b = slice-length (w 1) kind 2 in
    let c = slice-length (w 2) kind 3 in
    let d = slice-length (w 3) kind 4 in
    record {
      low = omega (arith, sum, a, b, c, d, (body (w 0)).low, (body (w 1)).low, (body (w 2)).low, (body (w 3)).low);
      high = omega (arith, sum, a, b, c, d, (body (w 0)).high, (body (w 1)).high, (body (w 2)).high, (body (w 3)).high);
    }

-- a header's bytes, and a picture's
abbrev pub header-length : CodingType → ℕ → ℕ
header-length Intra place = 8
header-length Predicted place = 9
header-length Bidirectional place = 9

header-is : (kind : CodingType) (place shown : ℕ)
    → length (0 ∷ 0 ∷ 1 ∷ 0 ∷ in_bytes (picture_fields kind shown)) ≡ header-length kind place
header-is Intra place shown = refl
header-is Predicted place shown = refl
header-is Bidirectional place shown = refl

-- a picture is headers, of a known size, and its slices
pub picture-headers : (words : ℕ → ℕ) (k : ℕ)
    → (headers : List ℕ) × ((picture_of words k ≡ headers ++ slices_of words (coding_type (k % 12)) 4)
    × (length headers ≡ length (cond (eqb (k % 12) 0) sequence_and_group []) + header-length (coding_type (k % 12)) k))
unfolding picture_of picture_header
picture-headers words k =
    let front : List ℕ = cond (eqb (k % 12) 0) sequence_and_group [] in
    let header : List ℕ =
    0 ∷ 0 ∷ 1 ∷ 0 ∷ in_bytes (picture_fields (coding_type (k % 12)) (temporal_reference (k % 12))) in (
      front ++ header,
      (
        refl,
        length-append front header
            ∙ ap (λ n. length front + n) (header-is (coding_type (k % 12)) k (temporal_reference (k % 12))),
      ),
    )

picture-length : (words : ℕ → ℕ) (k : ℕ)
    → length (picture_of words k)
    ≡ length (cond (eqb (k % 12) 0) sequence_and_group []) + header-length (coding_type (k % 12)) k
    + length (slices_of words (coding_type (k % 12)) 4)
picture-length words k =
    let parts = picture-headers words k in
    ap (λ (l : List ℕ). length l) parts.1.0 ∙ length-append parts.0 (slices_of words (coding_type (k % 12)) 4)
    ∙ ap (λ n. n + length (slices_of words (coding_type (k % 12)) 4)) parts.1.1

sized : {least most front : ℕ} {kind : CodingType} (words : ℕ → ℕ) (k : ℕ) → coding_type (k % 12) ≡ kind →
    length (cond (eqb (k % 12) 0) sequence_and_group []) ≡ front
    → ((w : ℕ → ℕ) → HasBounds least most (body_length w kind)) →
    (front + header-length kind k + 4 * (4 + least) ≤ length (picture_of words k))
    × (length (picture_of words k) ≤ front + header-length kind k + 4 * (4 + most))
sized {least} {most} {front} {kind} words k is headers body =
    let slices = slices-length words kind least most body in
    let whole : length (picture_of words k) ≡ front + header-length kind k + length (slices_of words kind 4) =
    picture-length words k
    ∙ ap (λ n. n + header-length (coding_type (k % 12)) k + length (slices_of words (coding_type (k % 12)) 4)) headers
    ∙ ap (λ (c : CodingType). front + header-length c k + length (slices_of words c 4)) is in
    (omega (arith, whole, slices.low), omega (arith, whole, slices.high))

pub kind-first : (j : ℕ) → j ≡ 0 → coding_type j ≡ Intra
unfolding coding_type
kind-first j e = ap (λ b. cond b Intra (cond (eqb (j % 2) 1) Predicted Bidirectional)) (eq-eqb j 0 e)

pub kind-odd : (j : ℕ) → j % 2 ≡ 1 → coding_type j ≡ Predicted
unfolding coding_type
kind-odd j odd =
    ap (λ b. cond b Intra (cond (eqb (j % 2) 1) Predicted Bidirectional)) (ne_eqb j 0 (λ e. omega (arith, e, odd)))
    ∙ ap (λ b. cond b Predicted Bidirectional) (eq-eqb (j % 2) 1 odd)

pub kind-even : (j : ℕ) → 0 < j → j % 2 ≡ 0 → coding_type j ≡ Bidirectional
unfolding coding_type
kind-even j some even =
    ap (λ b. cond b Intra (cond (eqb (j % 2) 1) Predicted Bidirectional)) (ne_eqb j 0 (λ e. omega (arith, e, some)))
    ∙ ap (λ b. cond b Predicted Bidirectional) (ne_eqb (j % 2) 1 (λ e. omega (arith, e, even)))

pub front-first : (j : ℕ) → j ≡ 0 → length (cond (eqb j 0) sequence_and_group []) ≡ 20
front-first j e = ap (λ b. length (cond b sequence_and_group [])) (eq-eqb j 0 e)

pub front-other : (j : ℕ) → 0 < j → length (cond (eqb j 0) sequence_and_group []) ≡ 0
front-other j some = ap (λ b. length (cond b sequence_and_group [])) (ne_eqb j 0 (λ e. omega (arith, e, some)))

pub intra-size : (words : ℕ → ℕ) (k : ℕ) → k % 12 ≡ 0
    → (28 + 4 * (4 + 300) ≤ length (picture_of words k)) × (length (picture_of words k) ≤ 28 + 4 * (4 + 1499))
intra-size words k first = sized words k (kind-first (k % 12) first) (front-first (k % 12) first) intra-body

pub predicted-size : (words : ℕ → ℕ) (k : ℕ) → k % 12 % 2 ≡ 1
    → (9 + 4 * (4 + 60) ≤ length (picture_of words k)) × (length (picture_of words k) ≤ 9 + 4 * (4 + 459))
predicted-size words k odd =
    sized words k (kind-odd (k % 12) odd) (front-other (k % 12) (omega (arith, odd))) predicted-body

pub bidirectional-size : (words : ℕ → ℕ) (k : ℕ) → 0 < k % 12 → k % 12 % 2 ≡ 0
    → (9 + 4 * (4 + 30) ≤ length (picture_of words k)) × (length (picture_of words k) ≤ 9 + 4 * (4 + 229))
bidirectional-size words k some even =
    sized words k (kind-even (k % 12) some even) (front-other (k % 12) some) bidirectional-body
