-- One more byte, slice and picture.
use Rattle.std.proofs.Common.{ℕ, zero, suc, ◌+◌, ◌-◌, ◌%◌, ◌≤◌, take, ◌≡◌, List, [], ◌∷◌, ◌++◌, sym, ◌∙◌}
use Rattle.std.proofs.Common.{ap, refl, arith, add-one}
use Rattle.std.specs.List.{flat_map, range_with_len}
use Rattle.std.proofs.lemmas.List.{append_assoc, append-nil, map-id}
use Rattle.std.proofs.lemmas.List.Concat.{flat_map-append}
use Rattle.std.proofs.lemmas.List.FromFn.{map-range_with_len_more}
use Rattle.film_make.specs.declared.pictures.CodingType.{CodingType}
use Rattle.film_make.specs.Generator.{words_after, end_to_end}
use Rattle.film_make.proofs.GeneratorLemmas.{words_after-at, words_after-twice}
use Rattle.film_make.specs.Film.{least_body, body_lengths, body_length, body_of, slice_of}
use Rattle.film_make.specs.Film.{slice_words, after_slice, picture_words, picture_of, pictures_of, film_of}
use Rattle.film_make.specs.Film.{sequence_and_group, sequence_end, coding_type}

pub end_to_end-none : (part : ℕ → List ℕ) → end_to_end part 0 ≡ []
unfolding end_to_end
end_to_end-none part = refl

range-more : (n : ℕ) → range_with_len 0 (n + 1) ≡ range_with_len 0 n ++ n ∷ []
range-more n =
    sym (map-id (range_with_len 0 (n + 1))) ∙ map-range_with_len_more (λ (i : ℕ). i) 0 n n (omega arith)
    ∙ ap (λ (places : List ℕ). places ++ n ∷ []) (map-id (range_with_len 0 n))

pub end_to_end-more : (part : ℕ → List ℕ) (n : ℕ) → end_to_end part (n + 1) ≡ end_to_end part n ++ part n
unfolding end_to_end
end_to_end-more part n =
    ap (flat_map part) (range-more n) ∙ flat_map-append part (range_with_len 0 n) (n ∷ [])
    ∙ ap (λ (last : List ℕ). flat_map part (range_with_len 0 n) ++ last) (append-nil (part n))

pub body_of-none : (words : ℕ → ℕ) → body_of words 0 ≡ []
unfolding body_of
body_of-none words = refl

pub body_of-more : (words : ℕ → ℕ) (n : ℕ) → body_of words (n + 1) ≡ body_of words n ++ (128 + words n % 128) ∷ []
unfolding body_of
body_of-more words n = map-range_with_len_more (λ i. 128 + words i % 128) 0 n n (omega arith)

pub slice_words-none : (kind : CodingType) (words : ℕ → ℕ) → slice_words kind words 0 ≡ words
unfolding slice_words
slice_words-none kind words = refl

pub slice_words-more : (kind : CodingType) (words : ℕ → ℕ) (s : ℕ)
    → slice_words kind words (s + 1) ≡ after_slice kind (slice_words kind words s)
unfolding slice_words
slice_words-more kind words s = ap (slice_words kind words) (add-one s)

pub picture_words-none : (words : ℕ → ℕ) → picture_words words 0 ≡ words
unfolding picture_words
picture_words-none words = refl

pub picture_words-more : (words : ℕ → ℕ) (k : ℕ)
    → picture_words words (k + 1) ≡ slice_words (coding_type (k % 12)) (picture_words words k) 4
unfolding picture_words
picture_words-more words k = ap (picture_words words) (add-one k)

-- a byte more of a body
pub body-step : {was : List ℕ} {left : ℕ → ℕ} {d : ℕ} (start : List ℕ) (words : ℕ → ℕ) (i : ℕ)
    → was ≡ start ++ body_of words i → left ≡ words_after i words → d ≡ left 0 % 128
    → was ++ (128 + d) ∷ [] ≡ start ++ body_of words (i + 1)
body-step {left} {d} start words i bytes rest drawn =
    let byte : d ≡ words i % 128 =
    drawn ∙ ap (λ (w : ℕ → ℕ). w 0 % 128) rest ∙ ap (λ n. n % 128) (words_after-at i words 0)
    ∙ ap (λ n. words n % 128) (omega arith) in
    ap (λ (l : List ℕ). l ++ (128 + d) ∷ []) bytes ∙ append_assoc start (body_of words i) ((128 + d) ∷ [])
    ∙ ap (λ n. start ++ (body_of words i ++ (128 + n) ∷ [])) byte
    ∙ ap (λ (l : List ℕ). start ++ l) (sym (body_of-more words i))

-- a draw more
pub words_after-step : (words left : ℕ → ℕ) (i : ℕ) → left ≡ words_after i words
    → words_after 1 left ≡ words_after (i + 1) words
words_after-step words left i rest = ap (words_after 1) rest ∙ words_after-twice 1 i words

-- a part more, which is drawn from what is left
pub part-step : (start was : List ℕ) (part : ℕ → List ℕ) (i : ℕ) → was ≡ start ++ end_to_end part i
    → was ++ part i ≡ start ++ end_to_end part (i + 1)
part-step start was part i bytes =
    ap (λ (l : List ℕ). l ++ part i) bytes ∙ append_assoc start (end_to_end part i) (part i)
    ∙ ap (λ (l : List ℕ). start ++ l) (sym (end_to_end-more part i))

-- at the start nothing is added
pub none-added : (out bytes : List ℕ) → bytes ≡ [] → out ≡ out ++ bytes
none-added out bytes empty = sym (ap (λ (l : List ℕ). out ++ l) empty ∙ append-nil out)

-- a slice's length as the code draws it
pub body_length-drawn : {least n d : ℕ} (words : ℕ → ℕ) (kind : CodingType) → least ≡ least_body kind
    → n ≡ body_lengths kind → d ≡ words 0 % n → least + d ≡ body_length words kind
unfolding body_length
body_length-drawn {d} words kind base lengths drawn =
    ap (λ m. m + d) base ∙ ap (λ m. least_body kind + m) (drawn ∙ ap (λ m. words 0 % m) lengths)

-- the length of a slice's body is drawn from these words, and these are left
pub record LengthDrawn (words left : ℕ → ℕ) (kind : CodingType) (n : ℕ) : Type 0 where
  pub length : n ≡ body_length words kind
  pub rest : left ≡ words_after 1 words

-- a slice: what stands before it, its start code, and its body
pub slice-step : {out : List ℕ} {words left : ℕ → ℕ} {kind : CodingType} {n : ℕ} (start : List ℕ) (code : ℕ) →
    LengthDrawn words left kind n → out ≡ (start ++ 0 ∷ 0 ∷ 1 ∷ code ∷ []) ++ body_of left n →
    out ≡ start ++ slice_of words kind code
unfolding slice_of
slice-step {words} {left} {n} start code drawn bytes =
    bytes ∙ append_assoc start (0 ∷ 0 ∷ 1 ∷ code ∷ []) (body_of left n)
    ∙ ap (λ (w : ℕ → ℕ). start ++ 0 ∷ 0 ∷ 1 ∷ code ∷ body_of w n) drawn.rest
    ∙ ap (λ m. start ++ 0 ∷ 0 ∷ 1 ∷ code ∷ body_of (words_after 1 words) m) drawn.length

pub after_slice-step : {words left end : ℕ → ℕ} {kind : CodingType} {n : ℕ} → LengthDrawn words left kind n
    → end ≡ words_after n left → end ≡ after_slice kind words
unfolding after_slice
after_slice-step {words} {n} drawn last =
    last ∙ ap (words_after n) drawn.rest ∙ words_after-twice n 1 words
    ∙ ap (λ m. words_after (1 + m) words) drawn.length

end_to_end-first : (part : ℕ → List ℕ) (n : ℕ) → (rest : List ℕ) × (end_to_end part (suc n) ≡ part 0 ++ rest)
unfolding end_to_end
end_to_end-first part n = (flat_map part (range_with_len (0 + 1) n), refl)

picture-first : (words : ℕ → ℕ) (rest : List ℕ) → take 20 (picture_of words 0 ++ rest) ≡ sequence_and_group
unfolding picture_of
picture-first words rest = refl

-- a film of some picture begins with the headers
pub film-begins : (words : ℕ → ℕ) (n : ℕ) → 1 ≤ n → take 20 (film_of words n) ≡ sequence_and_group
film-begins words zero some = absurd (omega arith)
film-begins words (suc n) some =
    let part = λ (k : ℕ). picture_of (picture_words words k) k in
    let first = end_to_end-first part n in
    ap (λ (l : List ℕ). take 20 (l ++ sequence_end)) first.1
    ∙ ap (take 20) (append_assoc (part 0) first.0 sequence_end)
    ∙ picture-first (picture_words words 0) (first.0 ++ sequence_end)

-- fewer parts stand in front of more
end_to_end-front : (part : ℕ → List ℕ) (m d : ℕ)
    → (rest : List ℕ) × (end_to_end part (m + d) ≡ end_to_end part m ++ rest)
end_to_end-front part m zero =
    ([], ap (end_to_end part) (let same : m + 0 ≡ m = omega arith in same) ∙ sym (append-nil (end_to_end part m)))
end_to_end-front part m (suc d) =
    let fewer = end_to_end-front part m d in (
      fewer.0 ++ part (m + d),
      ap (end_to_end part) (let same : m + suc d ≡ m + d + 1 = omega arith in same) ∙ end_to_end-more part (m + d)
          ∙ ap (λ (l : List ℕ). l ++ part (m + d)) fewer.1 ∙ append_assoc (end_to_end part m) fewer.0 (part (m + d)),
    )

pub pictures-front : (words : ℕ → ℕ) (m n : ℕ) → m ≤ n
    → (rest : List ℕ) × (pictures_of words n ≡ pictures_of words m ++ rest)
pictures-front words m n few =
    let front = end_to_end-front (λ (k : ℕ). picture_of (picture_words words k) k) m (n - m) in
    (front.0, ap (pictures_of words) (let same : n ≡ m + (n - m) = omega (arith, few) in same) ∙ front.1)
