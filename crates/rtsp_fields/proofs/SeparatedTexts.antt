-- A text that a separator cuts: its first part, and those of the rest.
use Rattle.std.proofs.Common.{◌≡◌, ℕ, suc, ◌+◌, ◌-◌, ◌<◌, ◌≤◌, ◌⊎◌, ◌==◌, Bool, true, false, not, List, [], ◌∷◌, ◌++◌}
use Rattle.std.proofs.Common.{length, take, drop, get_or, slice_range, refl, sym, ap, subst, ◌∙◌, arith, inl, inr}
use Rattle.std.proofs.lemmas.Bool.{cases_lt}
use Rattle.std.specs.List.{list_all}
use Rattle.std.proofs.lemmas.List.{take_at, take_all, length-append, get_or_append_left, get_or-append-add}
use Rattle.std.proofs.lemmas.List.Folds.{list_all_at}
use Rattle.rtsp_text.proofs.CutUniqueness.{all_other}
use Rattle.rtsp_fields.specs.SeparatedParts.{HasNone, IsStart, IsPartEnd, IsPart, NoPart, NoneBefore}

unfoldable pub text_of : ℕ → List ℕ → List ℕ → List ℕ
text_of c a rest = a ++ c ∷ rest

here_of : (c : ℕ) (a rest : List ℕ) (k : ℕ) → k < length a → get_or (text_of c a rest) k 0 ≡ get_or a k 0
unfolding text_of
here_of c a rest k inside = get_or_append_left a (c ∷ rest) 0 k inside

cut_of : (c : ℕ) (a rest : List ℕ) → get_or (text_of c a rest) (length a) 0 ≡ c
unfolding text_of
cut_of c a rest =
    ap (λ n. get_or (a ++ c ∷ rest) n 0) (let e : length a ≡ length a + 0 = omega arith in e)
    ∙ get_or-append-add a (c ∷ rest) 0 0

later_of : (c : ℕ) (a rest : List ℕ) (k : ℕ) → get_or (text_of c a rest) (length a + 1 + k) 0 ≡ get_or rest k 0
unfolding text_of
later_of c a rest k =
    ap (λ n. get_or (a ++ c ∷ rest) n 0) (let e : length a + 1 + k ≡ length a + suc k = omega arith in e)
    ∙ get_or-append-add a (c ∷ rest) (suc k) 0

pub long_of : (c : ℕ) (a rest : List ℕ) → length (text_of c a rest) ≡ length a + 1 + length rest
unfolding text_of
long_of c a rest = length-append a (c ∷ rest) ∙ omega arith

-- a part of the rest is one of the text
pub part_later : (c : ℕ) (a rest : List ℕ) (k end : ℕ) → IsPart c rest k end
    → IsPart c (text_of c a rest) (length a + 1 + k) (length a + 1 + end)
part_later c a rest k end p = record {
  start = inr (omega arith, start p.start);
  end = record {
    after = omega (arith, p.end.after);
    within = omega (arith, p.end.within, long_of c a rest);
    none = λ j from below.
        let same : length a + 1 + (j - (length a + 1)) ≡ j = omega (arith, from) in
        λ is. p.end.none (j - (length a + 1)) (omega (arith, from)) (omega (arith, below, from))
        (sym (later_of c a rest (j - (length a + 1))) ∙ ap (λ n. get_or (text_of c a rest) n 0) same ∙ is);
    ends = λ inside. later_of c a rest end ∙ p.end.ends (omega (arith, inside, long_of c a rest));
  };
}
  where
    start : IsStart c rest k → get_or (text_of c a rest) (length a + 1 + k - 1) 0 ≡ c
    start (inl e) =
        ap (λ n. get_or (text_of c a rest) n 0) (let s : length a + 1 + k - 1 ≡ length a =
        omega (arith, e) in s) ∙ cut_of c a rest
    start (inr e) =
        ap (λ n. get_or (text_of c a rest) n 0)
        (let s : length a + 1 + k - 1 ≡ length a + 1 + (k - 1) = omega (arith, e.0) in s)
        ∙ later_of c a rest (k - 1) ∙ e.1

-- the first part
pub part_first : (c : ℕ) (a rest : List ℕ) → HasNone c a 0 (length a) → IsPart c (text_of c a rest) 0 (length a)
part_first c a rest none = record {
  start = inl refl;
  end = record {
    after = omega arith;
    within = omega (arith, long_of c a rest);
    none = λ k from below is. none k from below (sym (here_of c a rest k below) ∙ is);
    ends = λ inside. cut_of c a rest;
  };
}

-- the one part of a text without the separator
pub part_whole : (c : ℕ) (a : List ℕ) → HasNone c a 0 (length a) → IsPart c a 0 (length a)
part_whole c a none = record {
  start = inl refl;
  end = record {
    after = omega arith;
    within = omega arith;
    none = none;
    ends = λ inside. absurd (omega (arith, inside));
  };
}

-- each part is the first one or one of the rest
record Later (c : ℕ) (a rest : List ℕ) (k end : ℕ) : Type 0 where
  from : ℕ
  to : ℕ
  from_is : k ≡ length a + 1 + from
  to_is : end ≡ length a + 1 + to
  part : IsPart c rest from to

end_first : (c : ℕ) (a rest : List ℕ) (end : ℕ) → HasNone c a 0 (length a) → IsPartEnd c (text_of c a rest) 0 end
    → end ≡ length a
end_first c a rest end none is =
    let most : end ≤ length a = elim (cases_lt (length a) end) [
      | inl over ↦ absurd (is.none (length a) (omega arith) over (cut_of c a rest))
      | inr fits ↦ omega (arith, fits)
    ] in
    elim (cases_lt end (length a)) [
      | inl inside ↦
          absurd (none end (omega arith) inside
          (sym (here_of c a rest end inside) ∙ is.ends (omega (arith, inside, long_of c a rest))))
      | inr least ↦ omega (arith, least, most)
    ]

-- where a part of the rest begins
later_start : (c : ℕ) (a rest : List ℕ) (k : ℕ) → length a + 1 + (k - (length a + 1)) ≡ k
    → get_or (text_of c a rest) (k - 1) 0 ≡ c → IsStart c rest (k - (length a + 1))
later_start c a rest k from is =
    elim (cases_lt 0 (k - (length a + 1))) [
      | inl some ↦ (
          let at : length a + 1 + (k - (length a + 1) - 1) ≡ k - 1 = omega (arith, some) in
          inr (some, sym (later_of c a rest (k - (length a + 1) - 1)) ∙ ap (λ n. get_or (text_of c a rest) n 0) at ∙ is)
          )
      | inr none ↦ inl (omega (arith, none))
    ]

part_cases : {c : ℕ} {a rest : List ℕ} {k end : ℕ} → HasNone c a 0 (length a) → IsPart c (text_of c a rest) k end →
    ((k ≡ 0) × (end ≡ length a)) ⊎ Later c a rest k end
part_cases {c} {a} {rest} {k} {end} none p = go p.start
  where
    go : IsStart c (text_of c a rest) k → ((k ≡ 0) × (end ≡ length a)) ⊎ Later c a rest k end
    go (inl e) = inl (e, end_first c a rest end none (subst (λ (n : ℕ). IsPartEnd c (text_of c a rest) n end) e p.end))
    go (inr e) =
        elim (cases_lt (k - 1) (length a)) [
          | inl inside ↦ absurd (none (k - 1) (omega arith) inside (sym (here_of c a rest (k - 1) inside) ∙ e.1))
          | inr after ↦ (
              let L = length a + 1 in
              let from : L + (k - L) ≡ k = omega (arith, after, e.0) in
              let to : L + (end - L) ≡ end = omega (arith, after, e.0, p.end.after) in
              inr (record {
                from = k - L;
                to = end - L;
                from_is = sym from;
                to_is = sym to;
                part = record {
                  start = later_start c a rest k from e.1;
                  end = record {
                    after = omega (arith, p.end.after);
                    within = omega (arith, p.end.within, long_of c a rest);
                    none = λ j low below is. p.end.none (L + j) (omega (arith, low)) (omega (arith, below))
                        (later_of c a rest j ∙ is);
                    ends = λ inside.
                        sym (later_of c a rest (end - L)) ∙ ap (λ n. get_or (text_of c a rest) n 0) to
                        ∙ p.end.ends (omega (arith, inside, long_of c a rest));
                  };
                };
              })
              )
        ]

pub slice_first : (c : ℕ) (a rest : List ℕ) → slice_range (text_of c a rest) 0 (length a) ≡ a
unfolding text_of
slice_first c a rest = take_at a (c ∷ rest) (length a - 0) (omega arith)

pub slice_later : (c : ℕ) (a rest : List ℕ) (k end : ℕ) → k ≤ end
    → slice_range (text_of c a rest) (length a + 1 + k) (length a + 1 + end) ≡ slice_range rest k end
unfolding text_of
slice_later c a rest k end order =
    let cut : drop (length a + 1 + k) (a ++ c ∷ rest) ≡ drop k rest = dropped a rest k in
    let count : length a + 1 + end - (length a + 1 + k) ≡ end - k = omega (arith, order) in
    ap (λ (l : List ℕ). take (length a + 1 + end - (length a + 1 + k)) l) cut ∙ ap (λ n. take n (drop k rest)) count
  where
    dropped : (front rest : List ℕ) (k : ℕ) → drop (length front + 1 + k) (front ++ c ∷ rest) ≡ drop k rest
    dropped [] rest k = ap (λ n. drop n (c ∷ rest)) (let e : 0 + 1 + k ≡ suc k = omega arith in e)
    dropped (x ∷ front) rest k =
        ap (λ n. drop n (x ∷ (front ++ c ∷ rest)))
        (let e : length (x ∷ front) + 1 + k ≡ suc (length front + 1 + k) = omega arith in e)
        ∙ dropped front rest k

-- the part of a text without the separator is the entire text
pub part_is_whole : (c : ℕ) (a : List ℕ) (k end : ℕ) → HasNone c a 0 (length a) → IsPart c a k end
    → (k ≡ 0) × (end ≡ length a)
part_is_whole c a k end none p = go p.start
  where
    go : IsStart c a k → (k ≡ 0) × (end ≡ length a)
    go (inr e) = absurd (none (k - 1) (omega arith) (omega (arith, e.0, p.end.after, p.end.within)) e.1)
    go (inl e) = (
      e,
      elim (cases_lt end (length a)) [
        | inl inside ↦ absurd (none end (omega arith) inside (p.end.ends inside))
        | inr least ↦ omega (arith, least, p.end.within)
      ],
    )

pub whole_slice : (c : ℕ) (a : List ℕ) (k end : ℕ) → HasNone c a 0 (length a) → IsPart c a k end
    → slice_range a k end ≡ a
whole_slice c a k end none p =
    let is = part_is_whole c a k end none p in
    ap (λ n. slice_range a n end) is.0 ∙ ap (λ n. slice_range a 0 n) is.1 ∙ take_all (length a - 0) a (omega arith)

pub none_whole : (c : ℕ) (a : List ℕ) (P : List ℕ → Type 0) → HasNone c a 0 (length a) → ¬ P a → NoPart c a P
none_whole c a P none other = λ k end p is. other (subst P (whole_slice c a k end none p) is)

pub none_before : {c : ℕ} {a rest : List ℕ} {at : ℕ} (P : List ℕ → Type 0) → HasNone c a 0 (length a) → ¬ P a
    → NoneBefore c rest at P → NoneBefore c (text_of c a rest) (length a + 1 + at) P
none_before {c} {a} {rest} {at} P none first more = λ k end below p. go k end below (part_cases none p)
  where
    go : (k end : ℕ) → k < length a + 1 + at → ((k ≡ 0) × (end ≡ length a)) ⊎ Later c a rest k end
        → ¬ P (slice_range (text_of c a rest) k end)
    go k end below (inl e) = λ is.
        let S : ℕ → Type 0 = λ n. P (slice_range (text_of c a rest) n end) in
        let E : ℕ → Type 0 = λ n. P (slice_range (text_of c a rest) 0 n) in
        first (subst P (slice_first c a rest) (subst E e.1 (subst S e.0 is)))
    go k end below (inr l) = λ is.
        let S : ℕ → Type 0 = λ n. P (slice_range (text_of c a rest) n end) in
        let E : ℕ → Type 0 = λ n. P (slice_range (text_of c a rest) (length a + 1 + l.from) n) in
        more l.from l.to (omega (arith, below, l.from_is)) l.part
        (subst P (slice_later c a rest l.from l.to l.part.end.after) (subst E l.to_is (subst S l.from_is is)))

-- no part is such a text
pub none_more : {c : ℕ} {a rest : List ℕ} (P : List ℕ → Type 0) → HasNone c a 0 (length a) → ¬ P a
    → NoPart c rest P → NoPart c (text_of c a rest) P
none_more P none first more = λ k end p.
    none_before {at = k} P none first (λ j to below. more j to) k end (omega arith) p

-- no byte is the separator
unfoldable pub other_than : ℕ → ℕ → Bool
other_than c b = not (b == c)

pub none_from : (c : ℕ) (a : List ℕ) → list_all (other_than c) a ≡ true → HasNone c a 0 (length a)
unfolding other_than
none_from c a all = λ k from below is.
    let same : other_than c c ≡ false = grind arith in
    let other : other_than c (get_or a k 0) ≡ false = ap (other_than c) is ∙ same in
    let wrong : true ≡ false = sym all ∙ list_all_at (other_than c) a k 0 below other in
    cc

-- nor is one of a text of bytes of another kind
pub kind_other : (kind : ℕ → Bool) (c : ℕ) (text : List ℕ) → kind c ≡ false → list_all kind text ≡ true
    → list_all (other_than c) text ≡ true
unfolding other_than
kind_other kind c text other all = all_other kind c other text all
