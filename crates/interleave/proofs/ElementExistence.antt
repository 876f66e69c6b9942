-- All bytes are elements and a rest: whether a complete element is at the start can be decided.
use Rattle.std.proofs.Common.{◌≡◌, ℕ, zero, suc, ◌+◌, ◌-◌, ◌<◌, ◌≤◌, ◌⊎◌, Bool, true, false, eqb, ltb, leb, cond, ◌&&◌}
use Rattle.std.proofs.Common.{List, [], ◌∷◌, length, take, drop, map, get_or, refl, sym, ◌∙◌, ap, subst, arith, inl}
use Rattle.std.proofs.Common.{inr, slice_range}
use Rattle.std.specs.Prelude.{codes}
use Rattle.std.specs.Char.{to_ascii_lowercase}
use Rattle.std.proofs.lemmas.Bool.{both_ways, cases_Bool, cases_lt, and_parts, and_from, eqb-true, eq-eqb, ltb-true}
use Rattle.std.proofs.lemmas.Bool.{lt-ltb, leb-true, le-leb}
use Rattle.std.proofs.lemmas.List.{length-drop}
use Rattle.interleave.specs.declared.content_lengths.TheConstants.{MAX_BODY_BYTES}
use Rattle.interleave.specs.declared.elements.TheConstants.{BLOCK_START}
use Rattle.interleave.specs.declared.message_heads.TheConstants.{MAX_HEAD_BYTES}
use Rattle.vod_base.specs.Blanks.{without_blanks}
use Rattle.vod_base.specs.Lines.{IsLine}
use Rattle.interleave.specs.Heads.{is_line_end, empty_line_ends, HasNoHead, IsHead}
use Rattle.interleave.specs.Lengths.{IsLengthLine, IsWrittenAt, IsBodyLength, written_length}
use Rattle.interleave.specs.Elements.{StartsBlock, StartsMessage, IsMessageLength, block_length}
use Rattle.interleave.specs.Streams.{IsElementLength, LineEnd, WholeBlock, WholeMessage, HasStream}
use Rattle.interleave.proofs.HeadSearchResults.{found_head, long_body, no_line, whole_length}
use Rattle.interleave.proofs.ElementUniqueness.{clash_block_request, clash_end_block, clash_short, head_once, not_long}
use Rattle.interleave.proofs.ElementUniqueness.{total_once}

-- ---- the first number below another for which a test holds

record Found (test : ℕ → Bool) (n : ℕ) : Type 0 where
  at : ℕ
  within : at < n
  holds : test at ≡ true
  first : (k : ℕ) → k < at → test k ≡ false

first_found : (test : ℕ → Bool) (n : ℕ) → Found test n ⊎ ((k : ℕ) → k < n → test k ≡ false)
first_found test zero = inr (λ k h. absurd (omega arith))
first_found test (suc n) = elim (first_found test n) [
  | inl f ↦ inl (record { at = f.at; within = omega (arith, f.within); holds = f.holds; first = f.first })
  | inr none ↦ elim (cases_Bool (test n)) [
    | inl there ↦ inl (record { at = n; within = omega arith; holds = there; first = none })
    | inr missing ↦ inr (λ k h. elim (cases_lt k n) [
      | inl below ↦ none k below
      | inr last ↦ (let same : n ≡ k = omega arith in subst (λ j. test j ≡ false) same missing)
    ])
  ]
]

-- ---- equal lists

same : List ℕ → List ℕ → Bool
same [] [] = true
same [] (y ∷ ys) = false
same (x ∷ xs) [] = false
same (x ∷ xs) (y ∷ ys) = eqb x y && same xs ys

same-true : (xs ys : List ℕ) → same xs ys ≡ true → xs ≡ ys
unfolding same
same-true [] [] e = refl
same-true [] (y ∷ ys) e = cc
same-true (x ∷ xs) [] e = cc
same-true (x ∷ xs) (y ∷ ys) e =
    let parts = and_parts (eqb x y) (same xs ys) e in
    ap (λ n. n ∷ xs) (eqb-true x y parts.0) ∙ ap (λ (l : List ℕ). y ∷ l) (same-true xs ys parts.1)

same-refl : (xs : List ℕ) → same xs xs ≡ true
unfolding same
same-refl [] = refl
same-refl (x ∷ xs) = and_from (eqb x x) (same xs xs) (eq-eqb x x refl) (same-refl xs)

-- ---- the head

head_decided : (w : List ℕ) → ((head : ℕ) × IsHead w head) ⊎ HasNoHead w (length w)
head_decided w = elim (first_found (empty_line_ends w) (length w)) [
  | inl f ↦ inl (f.at + 1, found_head w f.at f.within f.holds f.first)
  | inr none ↦ inr none
]

-- ---- the length of the body

feeds : List ℕ → ℕ → ℕ → Bool
feeds w at k = leb at k && eqb (get_or w k 0) 10

no_feed : (w : List ℕ) (at k : ℕ) → at ≤ k → feeds w at k ≡ false → get_or w k 0 ≡ 10 → ⊥
unfolding feeds
no_feed w at k after none is =
    both_ways (leb at k && eqb (get_or w k 0) 10)
    none (and_from (leb at k) (eqb (get_or w k 0) 10) (le-leb at k after) (eq-eqb (get_or w k 0) 10 is))

line_found : (w : List ℕ) (at : ℕ) (f : Found (feeds w at) (length w))
    → (text_end : ℕ) × IsLine w at text_end (f.at + 1)
unfolding feeds
line_found w at f =
    let parts = and_parts (leb at f.at) (eqb (get_or w f.at 0) 10) f.holds in
    let after : at ≤ f.at = leb-true at f.at parts.0 in
    let last : f.at + 1 - 1 ≡ f.at = omega arith in (
      cond (ltb (at + 1) (f.at + 1) && eqb (get_or w (f.at + 1 - 2) 0) 13) (f.at + 1 - 2) (f.at + 1 - 1),
      record {
        after = omega (arith, after);
        within = omega (arith, f.within);
        feed = ap (λ k. get_or w k 0) last ∙ eqb-true (get_or w f.at 0) 10 parts.1;
        first = λ k from below is. no_feed w at k from (f.first k (omega (arith, below))) is;
        text = refl;
      },
    )

written : (w : List ℕ) (at : ℕ) → (n : ℕ) × IsWrittenAt w at n
written w at = elim (first_found (feeds w at) (length w)) [
  | inl f ↦ (let line = line_found w at f in (
    written_length (without_blanks (slice_range w at line.0)),
    inl (record { text_end = line.0; next = f.at + 1; line = line.1; written = refl }),
  ))
  | inr none ↦ (0, inr (λ k from within is. no_feed w at k from (none k within) is, refl))
]

named : List ℕ → ℕ → Bool
named w at =
    ltb 0 at && (eqb (get_or w (at - 1) 0) 10
    && same (map to_ascii_lowercase (slice_range w at (at + 15))) (map to_ascii_lowercase (codes "Content-Length:")))

named-line : (w : List ℕ) (at : ℕ) → named w at ≡ true → IsLengthLine w at
unfolding named
named-line w at e =
    let first = and_parts (ltb 0 at)
    (eqb (get_or w (at - 1) 0) 10
    && same (map to_ascii_lowercase (slice_range w at (at + 15)))
    (map to_ascii_lowercase (codes "Content-Length:"))) e in
    let rest = and_parts (eqb (get_or w (at - 1) 0) 10)
    (same (map to_ascii_lowercase (slice_range w at (at + 15)))
    (map to_ascii_lowercase (codes "Content-Length:"))) first.1 in
    record {
      after = ltb-true 0 at first.0;
      begins = eqb-true (get_or w (at - 1) 0) 10 rest.0;
      name = same-true (map to_ascii_lowercase (slice_range w at (at + 15)))
          (map to_ascii_lowercase (codes "Content-Length:")) rest.1;
    }

line-named : (w : List ℕ) (at : ℕ) → IsLengthLine w at → named w at ≡ true
unfolding named
line-named w at line =
    let name : same (map to_ascii_lowercase (slice_range w at (at + 15)))
    (map to_ascii_lowercase (codes "Content-Length:")) ≡ true =
    ap (λ (l : List ℕ). same (map to_ascii_lowercase (slice_range w at (at + 15))) l) (sym line.name)
    ∙ same-refl (map to_ascii_lowercase (slice_range w at (at + 15))) in
    and_from (ltb 0 at)
    (eqb (get_or w (at - 1) 0) 10
    && same (map to_ascii_lowercase (slice_range w at (at + 15)))
    (map to_ascii_lowercase (codes "Content-Length:"))) (lt-ltb 0 at line.after)
    (and_from (eqb (get_or w (at - 1) 0) 10)
    (same (map to_ascii_lowercase (slice_range w at (at + 15)))
    (map to_ascii_lowercase (codes "Content-Length:"))) (eq-eqb (get_or w (at - 1) 0) 10 line.begins) name)

unnamed : (w : List ℕ) (at : ℕ) → named w at ≡ false → IsLengthLine w at → ⊥
unnamed w at none line = both_ways (named w at) none (line-named w at line)

body : (head : List ℕ) → (n : ℕ) × IsBodyLength head n
body head = elim (first_found (named head) (length head)) [
  | inl f ↦ (let value = written head (f.at + 15) in (
    value.0,
    inl
        (record {
          at = f.at;
          is_line = named-line head f.at f.holds;
          first = λ k below line. unnamed head k (f.first k below) line;
          value = value.1;
        }),
  ))
  | inr none ↦ (0, inr (no_line head (λ k within line. unnamed head k (none k within) line), refl))
]

-- ---- an element

abbrev Decides : List ℕ → Type 0
Decides w = ((n : ℕ) × IsElementLength w n) ⊎ ((n : ℕ) → IsElementLength w n → ⊥)

-- where a request is at the start, no other element is
only_request : (w : List ℕ) → StartsMessage w → ((n : ℕ) → IsMessageLength w n → n ≤ length w → ⊥) → (n : ℕ)
    → IsElementLength w n → ⊥
only_request w starts none n (LineEnd one some end) = both_ways (is_line_end (get_or w 0 0)) starts.1 end
only_request w starts none n (WholeBlock block four size inside) = clash_block_request w block starts
only_request w starts none n (WholeMessage request size inside) = none n size inside

request_whole : (w : List ℕ) (total : ℕ) → StartsMessage w → IsMessageLength w total → Decides w
request_whole w total starts size = elim (cases_lt (length w) total) [
  | inl less ↦
      inr (only_request w starts
      (λ n other inside. let same : n ≡ total = total_once w n total other size in omega (arith, same, less, inside)))
  | inr fits ↦ inl (total, WholeMessage starts size fits)
]

request_with_head : (w : List ℕ) (head : ℕ) → StartsMessage w → IsHead w head → head ≤ MAX_HEAD_BYTES → Decides w
request_with_head w head starts is fits =
    let its = body (take head w) in
    elim (cases_lt MAX_BODY_BYTES its.0) [
      | inl long ↦
          inr (only_request w starts
          (λ n size inside. not_long w n size (long_body w head is fits (its.0, (long, its.1)))))
      | inr small ↦ request_whole w (head + its.0) starts (whole_length is fits its.1 small)
    ]

request_decided : (w : List ℕ) → StartsMessage w → Decides w
request_decided w starts = elim (head_decided w) [
  | inl found ↦ elim (cases_lt MAX_HEAD_BYTES found.0) [
    | inl long ↦
        inr (only_request w starts
        (λ n size inside. let same : size.head ≡ found.0 =
        head_once w size.head found.0 size.is_head found.1 in omega (arith, same, size.fits, long)))
    | inr fits ↦ request_with_head w found.0 starts found.1 fits
  ]
  | inr none ↦ inr (only_request w starts (λ n size inside. clash_short w size.head size.is_head none))
]

-- where `$` is at the start, only a block can be
only_block : (w : List ℕ) → StartsBlock w → (4 ≤ length w → block_length w ≤ length w → ⊥) → (n : ℕ)
    → IsElementLength w n → ⊥
only_block w starts none n (LineEnd one some end) = clash_end_block w end starts
only_block w starts none n (WholeBlock block four size inside) = none four (omega (arith, size, inside))
only_block w starts none n (WholeMessage request size inside) = clash_block_request w starts request

block_decided : (w : List ℕ) → StartsBlock w → Decides w
block_decided w starts = elim (cases_lt (length w) 4) [
  | inl short ↦ inr (only_block w starts (λ four inside. omega (arith, short, four)))
  | inr four ↦ elim (cases_lt (length w) (block_length w)) [
    | inl less ↦ inr (only_block w starts (λ _ inside. omega (arith, less, inside)))
    | inr fits ↦ inl (block_length w, WholeBlock starts four refl fits)
  ]
]

nothing : (w : List ℕ) → length w ≡ 0 → (n : ℕ) → IsElementLength w n → ⊥
nothing w none n (LineEnd one some end) = omega (arith, none, some)
nothing w none n (WholeBlock starts four size inside) = omega (arith, none, four)
nothing w none n (WholeMessage starts size inside) = omega (arith, none, starts.0)

front_decided : (w : List ℕ) → 0 < length w → Decides w
front_decided w some = elim (cases_Bool (is_line_end (get_or w 0 0))) [
  | inl end ↦ inl (1, LineEnd refl some end)
  | inr other ↦ elim (cases_Bool (eqb (get_or w 0 0) BLOCK_START)) [
    | inl dollar ↦ block_decided w (some, eqb-true (get_or w 0 0) BLOCK_START dollar)
    | inr plain ↦ request_decided w (some, other, plain)
  ]
]

element_decided : (w : List ℕ) → Decides w
element_decided w = elim (cases_lt 0 (length w)) [
  | inl some ↦ front_decided w some
  | inr none ↦ inr (nothing w (omega arith))
]

-- ---- a stream

element_some : (w : List ℕ) (n : ℕ) → IsElementLength w n → 0 < n
element_some w n (LineEnd one some end) = omega (arith, one)
element_some w n (WholeBlock starts four size inside) = omega (arith, size)
element_some w n (WholeMessage starts size inside) = omega (arith, size.total_is, size.is_head.some)

stream_by : (most : ℕ) (w : List ℕ) → length w ≤ most → HasStream w
stream_by zero w short = ([], (w, (refl, nothing w (omega arith))))
stream_by (suc most) w short = elim (element_decided w) [
  | inl element ↦
      (let rest = stream_by most (drop element.0 w)
      (omega (arith, length-drop element.0 w, element_some w element.0 element.1, short)) in
      (take element.0 w ∷ rest.0, (rest.1.0, ((element.0, (element.1, refl, rest.1.1.0)), rest.1.1.1))))
  | inr none ↦ ([], (w, (refl, none)))
]

-- all bytes are elements and a rest that begins with no complete element
pub has_stream : (w : List ℕ) → HasStream w
has_stream w = stream_by (length w) w (omega arith)
