-- The slices of a picture.
use Rattle.std.proofs.Common.{ℕ, ◌+◌, ◌%◌, ◌<◌, ◌≤◌, ◌≡◌, ◌≢◌, List, [], ◌++◌, cond, eqb, length}
use Rattle.std.proofs.Common.{refl, ap, arith, inl, inr, subst}
use Rattle.std.specs.List.{range_with_len}
use Rattle.std.proofs.lemmas.Bool.{cases_lt}
use Rattle.std.proofs.lemmas.List.Elements.{All-map}
use Rattle.film_make.specs.declared.pictures.CodingType.{CodingType}
use Rattle.film_make.specs.Film.{body_length, body_of, coding_type, picture_of, sequence_and_group}
use Rattle.film_make.specs.Film.{slice_of, slice_words, slices_of}
use Rattle.film_make.specs.Generator.{words_after, end_to_end}
use Rattle.film_make.specs.Slices.{AreSlices, EndsWithSlices, IsBody}
use Rattle.film_make.proofs.SizeLemmas.{front-first, front-other, header-length, kind-even}
use Rattle.film_make.proofs.SizeLemmas.{kind-first, kind-odd, picture-headers}

body-is : (words : ℕ → ℕ) (n : ℕ) → IsBody (body_of words n)
unfolding body_of
body-is words n =
    All-map (λ byte. (128 ≤ byte) × (byte ≤ 255)) (λ (i : ℕ). 128 + words i % 128) (range_with_len 0 n)
    (λ k d lt. (omega arith, omega arith))

slices-are : (words : ℕ → ℕ) (kind : CodingType) → AreSlices 4 1 (slices_of words kind 4)
unfolding end_to_end slice_of
slices-are words kind =
    let w = slice_words kind words in
    let s : ℕ → List ℕ = λ k. slice_of (w k) kind (k + 1) in
    let body : ℕ → List ℕ = λ k. body_of (words_after 1 (w k)) (body_length (w k) kind) in
    let is : (k : ℕ) → IsBody (body k) = λ k. body-is (words_after 1 (w k)) (body_length (w k) kind) in (
      body 0,
      (
        s 1 ++ (s 2 ++ (s 3 ++ [])),
        (
          refl,
          is 0,
          (
            body 1,
            (
              s 2 ++ (s 3 ++ []),
              (refl, is 1, (body 2, (s 3 ++ [], (refl, is 2, (body 3, ([], (refl, is 3, refl))))))),
            ),
          ),
        ),
      ),
    )

-- the size of the headers
headers-first : (k j : ℕ) → j ≡ 0 → length (cond (eqb j 0) sequence_and_group []) + header-length (coding_type j) k ≡ 28
headers-first k j first =
    let kind : header-length (coding_type j) k ≡ 8 = ap (λ (c : CodingType). header-length c k) (kind-first j first) in
    omega (arith, front-first j first, kind)

headers-other : (k j : ℕ) → 0 < j → length (cond (eqb j 0) sequence_and_group []) + header-length (coding_type j) k ≡ 9
headers-other k j some = elim (cases_lt (j % 2) 1) [
  | inl even ↦
      let kind : header-length (coding_type j) k ≡ 9 =
      ap (λ (c : CodingType). header-length c k) (kind-even j some (omega (arith, even))) in
      omega (arith, front-other j some, kind)
  | inr odd ↦
      let kind : header-length (coding_type j) k ≡ 9 =
      ap (λ (c : CodingType). header-length c k) (kind-odd j (omega (arith, odd))) in
      omega (arith, front-other j some, kind)
]

ends-with : (words : ℕ → ℕ) (k : ℕ)
    → EndsWithSlices
    (length (cond (eqb (k % 12) 0) sequence_and_group []) + header-length (coding_type (k % 12)) k) 4
    (picture_of words k)
ends-with words k =
    let parts = picture-headers words k in
    record {
      headers = parts.0;
      slices = slices_of words (coding_type (k % 12)) 4;
      picture_is = parts.1.0;
      size_is = parts.1.1;
      slices_are = slices-are words (coding_type (k % 12));
    }

pub first-slices : (words : ℕ → ℕ) (k : ℕ) → k % 12 ≡ 0 → EndsWithSlices 28 4 (picture_of words k)
first-slices words k first =
    subst (λ n. EndsWithSlices n 4 (picture_of words k)) (headers-first k (k % 12) first) (ends-with words k)

pub other-slices : (words : ℕ → ℕ) (k : ℕ) → k % 12 ≢ 0 → EndsWithSlices 9 4 (picture_of words k)
other-slices words k other =
    subst (λ n. EndsWithSlices n 4 (picture_of words k)) (headers-other k (k % 12) (omega (arith, other)))
    (ends-with words k)
