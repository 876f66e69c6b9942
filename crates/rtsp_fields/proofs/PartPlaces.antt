-- Where parts begin and end.
use Rattle.std.proofs.Common.{◌≡◌, ℕ, ◌+◌, ◌-◌, ◌<◌, ◌≤◌, List, length, sym, ◌∙◌, subst, arith, inl, inr, slice_range}
use Rattle.std.proofs.lemmas.Bool.{cases_order}
use Rattle.rtsp_fields.specs.SeparatedParts.{IsStart, IsPartEnd, IsNextPart, IsPart, NoneBefore, NoPart}
use Rattle.rtsp_fields.specs.declared.separated_parts.SeparatedParts.{SeparatedParts}

-- a part has one end
pub end_once : {c : ℕ} {text : List ℕ} {from a b : ℕ} → IsPartEnd c text from a → IsPartEnd c text from b → a ≡ b
end_once {a} {b} x y =
    elim (cases_order a b) [
      | inl same ↦ same
      | inr (inl less) ↦ absurd (y.none a x.after less (x.ends (omega (arith, less, y.within))))
      | inr (inr more) ↦ absurd (x.none b y.after more (y.ends (omega (arith, more, x.within))))
    ]

-- no part begins after `from` and up to `to`
abbrev HasNoStart : ℕ → List ℕ → ℕ → ℕ → Type 0
HasNoStart c text from to = (k : ℕ) → from < k → k ≤ to → ¬ IsStart c text k

-- none begins within a part
no_start_inside : {c : ℕ} {text : List ℕ} {from to : ℕ} → IsPartEnd c text from to → HasNoStart c text from to
no_start_inside e k after before (inl zero) = omega (arith, after, zero)
no_start_inside e k after before (inr s) = e.none (k - 1) (omega (arith, after)) (omega (arith, after, before)) s.1

-- the next part begins after the separator
pub next_start : (c : ℕ) (text : List ℕ) (from to : ℕ) → IsPartEnd c text from to → to + 1 ≤ length text
    → IsStart c text (to + 1)
next_start c text from to e inside =
    inr (omega arith, let same : to + 1 - 1 ≡ to = omega arith in rw same (e.ends (omega (arith, inside))))

-- the first part of one kind
pub record FirstPart (P : List ℕ → Type 0) (c : ℕ) (text : List ℕ) : Type 0 where
  pub from : ℕ
  pub to : ℕ
  pub part : IsPart c text from to
  pub holds : P (slice_range text from to)
  pub first : NoneBefore c text from P

-- it is one part
pub first_once : {c : ℕ} {text : List ℕ} (P : List ℕ → Type 0) (x y : FirstPart P c text) →
    (x.from ≡ y.from) × (x.to ≡ y.to)
first_once {c} {text} P x y =
    let same : x.from ≡ y.from = elim (cases_order x.from y.from) [
      | inl e ↦ e
      | inr (inl less) ↦ absurd (y.first x.from x.to less x.part x.holds)
      | inr (inr more) ↦ absurd (x.first y.from y.to more y.part y.holds)
    ] in
    (same, end_once (let Q : ℕ → Type 0 = λ n. IsPartEnd c text n x.to in subst Q same x.part.end) y.part.end)

-- the parts that were gone through before a place are no such texts
pub record HasPassed (P : List ℕ → Type 0) (c : ℕ) (text : List ℕ) (parts : SeparatedParts) : Type 0 where
  pub text_is : parts.text.now ≡ text
  pub separator_is : parts.separator ≡ c
  pub start : parts.from ≤ length text → IsStart c text parts.from
  pub before : NoneBefore c text parts.from P

-- what a call of `next` gives of these parts
abbrev pub GivesNext : SeparatedParts → List ℕ → SeparatedParts → Type 0
GivesNext old part new = IsNextPart old.separator old.text.now old.from new.from part
    × (new.text.now ≡ old.text.now) × (new.separator ≡ old.separator)

pub passed_none : {c : ℕ} {text : List ℕ} {parts : SeparatedParts} (P : List ℕ → Type 0) → parts.text.now ≡ text →
    parts.separator ≡ c → parts.from ≡ 0 → HasPassed P c text parts
passed_none P text_is separator_is first = record {
  text_is = text_is;
  separator_is = separator_is;
  start = λ _. inl first;
  before = λ k end below part. absurd (omega (arith, below, first));
}

-- a part that came after those that were gone through
pub record NextPart (P : List ℕ → Type 0) (c : ℕ) (text : List ℕ) : Type 0 where
  pub old : SeparatedParts
  pub new : SeparatedParts
  pub part : List ℕ
  pub passed : HasPassed P c text old
  pub gives : GivesNext old part new

-- it is one of this text
next_of : {P : List ℕ → Type 0} {c : ℕ} {text : List ℕ} (n : NextPart P c text) →
    IsNextPart c text n.old.from n.new.from n.part
next_of {text} n =
    subst (λ s. IsNextPart s text n.old.from n.new.from n.part) n.passed.separator_is
    (subst (λ t. IsNextPart n.old.separator t n.old.from n.new.from n.part) n.passed.text_is n.gives.0)

-- no part up to it is such a text
none_before_next : {P : List ℕ → Type 0} {c : ℕ} {text : List ℕ} (n : NextPart P c text) → ¬ P n.part →
    NoneBefore c text n.new.from P
none_before_next {P} {c} {text} n other =
    let next = next_of n in
    let from = n.old.from in
    λ k end below part is. elim (cases_order k from) [
      | inl same ↦
          let same_end : end ≡ next.end =
          end_once (let Q : ℕ → Type 0 = λ n. IsPartEnd c text n end in subst Q same part.end) next.is_end in
          let Q : ℕ → Type 0 = λ n. P (slice_range text n end) in
          let R : ℕ → Type 0 = λ n. P (slice_range text from n) in
          other (subst P (sym next.part_is) (subst R same_end (subst Q same is)))
      | inr (inl less) ↦ n.passed.before k end less part is
      | inr (inr more) ↦ no_start_inside next.is_end k more (omega (arith, below, next.next_is)) part.start
    ]

pub passed_more : {P : List ℕ → Type 0} {c : ℕ} {text : List ℕ} (n : NextPart P c text) → ¬ P n.part →
    HasPassed P c text n.new
passed_more {P} {c} {text} n other =
    let next = next_of n in
    record {
      text_is = n.gives.1 ∙ n.passed.text_is;
      separator_is = n.gives.2 ∙ n.passed.separator_is;
      start = subst (λ n. n ≤ length text → IsStart c text n) (sym next.next_is)
          (next_start c text n.old.from next.end next.is_end);
      before = none_before_next n other;
    }

-- all parts were passed
pub passed_every : {P : List ℕ → Type 0} {c : ℕ} {text : List ℕ} {parts : SeparatedParts} → HasPassed P c text parts →
    length parts.text.now < parts.from → NoPart c text P
passed_every {text = text} {parts} passed past =
    let over : length text < parts.from = subst (λ t. length t < parts.from) passed.text_is past in
    λ k end part. passed.before k end (omega (arith, over, part.end.after, part.end.within)) part

-- the first part that is such a text
pub found_part : {P : List ℕ → Type 0} {c : ℕ} {text : List ℕ} (n : NextPart P c text) → P n.part →
    (f : FirstPart P c text) × (n.part ≡ slice_range text f.from f.to)
found_part {P} {text = text} n holds =
    let next = next_of n in
    let inside : n.old.from ≤ length text = omega (arith, next.is_end.after, next.is_end.within) in (
      record {
        from = n.old.from;
        to = next.end;
        part = record { start = n.passed.start inside; end = next.is_end };
        holds = subst P next.part_is holds;
        first = n.passed.before;
      },
      next.part_is,
    )
