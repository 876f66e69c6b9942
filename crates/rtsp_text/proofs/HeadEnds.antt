-- Where a head ends, found line by line.
use Rattle.std.proofs.Common.{◌≡◌, ◌≢◌, ℕ, ◌+◌, ◌-◌, ◌<◌, ◌≤◌, ◌⊎◌, ◌&&◌, ◌==◌, Bool, true, false, cond, nat_lt, List}
use Rattle.std.proofs.Common.{[], ◌∷◌, ◌++◌, length, get_or, take, drop, refl, sym, ap, subst, ◌∙◌, arith, inl, inr}
use Rattle.std.proofs.Common.{ne_eqb}
use Rattle.std.specs.Str.Lines.{lines}
use Rattle.std.proofs.lemmas.Bool.{cases_Bool, cases_lt, cases_eq, cond-true, cond-false}
use Rattle.std.proofs.lemmas.Bool.Decides.{nat_tests}
use Rattle.std.proofs.lemmas.List.{append-nil, append_assoc, take-append-drop, drop-drop, drop_all, take-take}
use Rattle.std.proofs.lemmas.List.{drop-take, length-take, length-take-le, length-drop, get_or-take, get_or-drop}
use Rattle.vod_base.specs.Lines.{IsLine, HasNoLine}
use Rattle.interleave.specs.Heads.{empty_line_ends, HasNoHead, IsHead}
use Rattle.interleave.specs.Elements.{IsMessageLength}
use Rattle.rtsp_text.specs.Lines.{before_empty, first_line, lines_before_empty, header_lines, IsNextLine, IsSplit}
use Rattle.rtsp_text.proofs.LineIteration.{next_here, first_line-next, header_lines-next, next_header, next_empty}
use Rattle.rtsp_text.proofs.LineIteration.{before_empty-closed}

-- a byte that ends no empty line
not_feed : (w : List ℕ) (k : ℕ) → get_or w k 0 ≢ 10 → empty_line_ends w k ≡ false
not_feed w k other = rw (ne_eqb (get_or w k 0) 10 other) refl

not_after_feed : (w : List ℕ) (k : ℕ) → (0 < k → get_or w (k - 1) 0 ≢ 10)
    → (1 < k → get_or w (k - 1) 0 ≡ 13 → get_or w (k - 2) 0 ≢ 10) → empty_line_ends w k ≡ false
not_after_feed w k one two = grind (arith, nat_tests)

-- a byte that ends an empty line
ends_one : (w : List ℕ) (k : ℕ) → get_or w k 0 ≡ 10 → 0 < k → get_or w (k - 1) 0 ≡ 10 → empty_line_ends w k ≡ true
ends_one w k feed some before = rw (feed, before) (grind (arith, nat_tests))

ends_two : (w : List ℕ) (k : ℕ) → get_or w k 0 ≡ 10 → 1 < k → get_or w (k - 1) 0 ≡ 13 → get_or w (k - 2) 0 ≡ 10
    → empty_line_ends w k ≡ true
ends_two w k feed some cr before = rw (feed, cr, before) (grind (arith, nat_tests))

not_less : (m n : ℕ) (b : Bool) → n ≤ m → (nat_lt m n && b) ≡ false
not_less m n b h = grind (arith, nat_tests)

cr_line : (m n b : ℕ) → m < n → b ≡ 13 → (nat_lt m n && (b == 13)) ≡ true
cr_line m n b less is = rw is (grind (arith, nat_tests))

cr_byte : (m n b : ℕ) → (nat_lt m n && (b == 13)) ≡ true → b ≡ 13
cr_byte m n b h = grind (arith, nat_tests)

-- whether a CR stands before the LF of the line from a place to n
abbrev is_cr : ℕ → List ℕ → ℕ → Bool
is_cr at w n = nat_lt (at + 1) n && (get_or w (n - 2) 0 == 13)

-- a line ends before this place, and no head does
pub record IsAfterLine (w : List ℕ) (n : ℕ) : Type 0 where
  pub some : 0 < n
  pub feed : get_or w (n - 1) 0 ≡ 10
  pub none : HasNoHead w n

-- a line from `at` up to `n` has a text
pub record IsFullLine (w : List ℕ) (at n : ℕ) : Type 0 where
  pub end : ℕ
  pub line : IsLine w at end n
  pub some : end ≢ at

-- such a line ends no head
pub after_more : {w : List ℕ} {at n : ℕ} → IsAfterLine w at → IsFullLine w at n → IsAfterLine w n
after_more {w} {at} {n} after full = record {
  some = omega (arith, full.line.after);
  feed = full.line.feed;
  none = λ k below. elim (cases_lt k at) [
    | inl before ↦ after.none k before
    | inr from ↦ elim (cases_lt (k + 1) n) [
      | inl inside ↦ not_feed w k (full.line.first k from inside)
      | inr last ↦ (
          let k_is : k ≡ n - 1 = omega (arith, last, below) in
          let one_byte : n ≤ at + 1 → ⊥ = λ few.
          full.some (full.line.text ∙ cond-false (is_cr at w n) (n - 2) (n - 1)
          (not_less (at + 1) n (get_or w (n - 2) 0 == 13) few) ∙ omega (arith, few, full.line.after)) in
          not_after_feed w k
          (λ some_before e10. elim (cases_lt at k) [
            | inl longer ↦ full.line.first (k - 1) (omega arith) (omega arith) e10
            | inr short ↦ one_byte (omega arith)
          ])
          (λ two_before e13 e10. elim (cases_lt (at + 1) k) [
            | inl longer ↦ full.line.first (k - 2) (omega arith) (omega arith) e10
            | inr short ↦ elim (cases_eq (at + 1) k) [
              | inl here ↦ (
                  let same : k - 1 ≡ n - 2 = omega arith in
                  let cr : get_or w (n - 2) 0 ≡ 13 = ap (λ j. get_or w j 0) (sym same) ∙ e13 in
                  full.some (full.line.text ∙ cond-true (is_cr at w n) (n - 2) (n - 1)
                  (cr_line (at + 1) n (get_or w (n - 2) 0) (omega arith) cr) ∙ omega arith)
                  )
              | inr other ↦ one_byte (omega arith)
            ]
          ])
          )
    ]
  ];
}

-- a line's text ends before CR LF, or before LF
line_end : (w : List ℕ) (at e n : ℕ) → IsLine w at e n →
    ((e ≡ n - 2) × (at + 1 < n) × (get_or w (n - 2) 0 ≡ 13)) ⊎ (e ≡ n - 1)
line_end w at e n line = elim (cases_Bool (is_cr at w n)) [
  | inl cr ↦
      let more : at + 1 < n = grind (arith, nat_tests) in
      inl (line.text ∙ cond-true (is_cr at w n) (n - 2) (n - 1) cr, more, cr_byte (at + 1) n (get_or w (n - 2) 0) cr)
  | inr other ↦ inr (line.text ∙ cond-false (is_cr at w n) (n - 2) (n - 1) other)
]

-- an empty line ends the head
pub head_here : {w : List ℕ} {at n : ℕ} → IsAfterLine w at → IsLine w at at n → IsHead w n
head_here {w} {at} {n} after line = record {
  some = omega (arith, line.after);
  within = line.within;
  ends = elim (line_end w at at n line) [
    | inl cr ↦ (
        let byte : get_or w (n - 1 - 1) 0 ≡ 13 =
        ap (λ j. get_or w j 0) (let j : n - 1 - 1 ≡ n - 2 = omega arith in j) ∙ cr.2 in
        let before : get_or w (n - 1 - 2) 0 ≡ 10 =
        ap (λ j. get_or w j 0) (let j : n - 1 - 2 ≡ at - 1 = omega (arith, cr.0) in j) ∙ after.feed in
        ends_two w (n - 1) line.feed (omega (arith, after.some, cr.0, cr.1)) byte before
        )
    | inr end ↦ (
        let before : get_or w (n - 1 - 1) 0 ≡ 10 =
        ap (λ j. get_or w j 0) (let j : n - 1 - 1 ≡ at - 1 = omega (arith, line.after, end) in j) ∙ after.feed in
        ends_one w (n - 1) line.feed (omega (arith, after.some, line.after, end)) before
        )
  ];
  first = λ k below. elim (cases_lt k at) [
    | inl before ↦ after.none k before
    | inr from ↦ not_feed w k (line.first k from below)
  ];
}

-- the first line of a text ends no head
pub after_first : (w : List ℕ) (e n : ℕ) → IsLine w 0 e n → IsAfterLine w n
after_first w e n line = record {
  some = line.after;
  feed = line.feed;
  none = λ k below.
      elim (cases_lt (k + 1) n) [
        | inl inside ↦ not_feed w k (line.first k (omega arith) inside)
        | inr last ↦
            not_after_feed w k (λ some. line.first (k - 1) (omega arith) (omega arith))
            (λ two cr. line.first (k - 2) (omega arith) (omega arith))
      ];
}

-- no head ends where no line does
pub no_head_open : (w : List ℕ) (at head : ℕ) → HasNoHead w at → HasNoLine w at → IsHead w head → ⊥
no_head_open w at head none open_line is_head =
    let fails : empty_line_ends w (head - 1) ≡ false = elim (cases_lt (head - 1) at) [
      | inl before ↦ none (head - 1) before
      | inr from ↦ not_feed w (head - 1) (open_line (head - 1) from (omega (arith, is_head.some, is_head.within)))
    ] in
    let bad : true ≡ false = sym is_head.ends ∙ fails in
    cc

-- a line's text ends within the line
line_bounds : (w : List ℕ) (at e n : ℕ) → IsLine w at e n → (at ≤ e) × (e < n)
line_bounds w at e n line = elim (line_end w at e n line) [
  | inl cr ↦ (omega (arith, cr.0, cr.1), omega (arith, cr.0, cr.1))
  | inr end ↦ (omega (arith, line.after, end), omega (arith, line.after, end))
]

-- the end of its text, from that place on
cut_before : (at n : ℕ) (cr : Bool) → cond cr (n - 2) (n - 1) - at ≡ cond cr (n - at - 2) (n - at - 1)
cut_before at n true = omega arith
cut_before at n false = omega arith

-- it stands there in what begins at the place
same_cr : (at : ℕ) (w : List ℕ) (n : ℕ) → is_cr at w n ≡ is_cr 0 (drop at w) (n - at)
same_cr at w n = elim (cases_lt (at + 1) n) [
  | inl more ↦
      let byte : get_or (drop at w) (n - at - 2) 0 ≡ get_or w (n - 2) 0 =
      get_or-drop at w (n - at - 2) 0 ∙ ap (λ j. get_or w j 0) (let j : at + (n - at - 2) ≡ n - 2 = omega arith in j) in
      rw byte (grind (arith, nat_tests))
  | inr less ↦ let short : n - at ≤ 1 = omega (arith, less) in grind (arith, nat_tests)
]

-- a line at a place is the first line of what stands there
line_drop : (w : List ℕ) (at e n : ℕ) → IsLine w at e n → IsLine (drop at w) 0 (e - at) (n - at)
line_drop w at e n line = record {
  after = omega (arith, line.after);
  within = omega (arith, length-drop at w, line.within);
  feed = get_or-drop at w (n - at - 1) 0
      ∙ ap (λ j. get_or w j 0) (let j : at + (n - at - 1) ≡ n - 1 = omega (arith, line.after) in j) ∙ line.feed;
  first = λ k from below e10. line.first (at + k) (omega arith) (omega arith) (sym (get_or-drop at w k 0) ∙ e10);
  text = ap (λ end. end - at) line.text ∙ cut_before at n (is_cr at w n)
      ∙ ap (λ cr. cond cr (n - at - 2) (n - at - 1)) (same_cr at w n);
}

-- a line within the first bytes
line_take : {w : List ℕ} {at e n : ℕ} (m : ℕ) → n ≤ m → IsLine w at e n → IsLine (take m w) at e n
line_take {w} {at} {n} m few line = record {
  after = line.after;
  within = omega (arith, length-take m w, line.within);
  feed = get_or-take m w (n - 1) 0 (omega (arith, line.after)) ∙ line.feed;
  first = λ k from below e10. line.first k from below (sym (get_or-take m w k 0 (omega arith)) ∙ e10);
  text = line.text
      ∙ ap (λ b. cond (nat_lt (at + 1) n && (b == 13)) (n - 2) (n - 1))
      (sym (get_or-take m w (n - 2) 0 (omega (arith, line.after))));
}

-- the line that begins at a place
next_at : (w : List ℕ) (at e n : ℕ) → IsLine w at e n → IsNextLine (drop at w) (take (e - at) (drop at w)) (drop n w)
next_at w at e n line =
    let next = next_here (drop at w) (e - at) (n - at) (line_drop w at e n line) in
    let rest : drop (n - at) (drop at w) ≡ drop n w =
    drop-drop (n - at) at w ∙ ap (λ k. drop k w) (let k : at + (n - at) ≡ n = omega (arith, line.after) in k) in
    record {
      lines_are = next.lines_are ∙ ap (λ r. take (e - at) (drop at w) ∷ lines r) rest;
      shorter = omega (arith, length-drop at w, length-drop n w, line.after, line.within);
    }

-- the text of a line within the first bytes
text_take : (w : List ℕ) (at e m : ℕ) → at ≤ m → e ≤ m → take (e - at) (drop at (take m w)) ≡ take (e - at) (drop at w)
text_take w at e m from few =
    ap (λ k. take (e - at) (drop at (take k w))) (let k : m ≡ at + (m - at) = omega arith in k)
    ∙ ap (take (e - at)) (drop-take at (m - at) w)
    ∙ take-take (e - at) (m - at) (drop at w) (omega arith)

-- the lines before a place are read, and no head ends among them
pub record HasWalked (message : List ℕ) (at : ℕ) : Type 0 where
  pub after : IsAfterLine message at
  pub within : at ≤ length message
  pub seen : List (List ℕ)
  pub whole : header_lines message ≡ seen ++ lines_before_empty (drop at message)
  pub front : (m : ℕ) → at ≤ m
      → lines (take m message) ≡ first_line message ∷ (seen ++ lines (drop at (take m message)))

-- after the first line
pub walk_first : (w : List ℕ) (e n : ℕ) → IsLine w 0 e n → HasWalked w n
walk_first w e n line =
    let next = next_here w e n line in
    record {
      after = after_first w e n line;
      within = line.within;
      seen = [];
      whole = sym (header_lines-next w (take e w) (drop n w) next);
      front = λ m few.
          let there = next_here (take m w) e n (line_take m few line) in
          there.lines_are
          ∙ ap (λ t. t ∷ lines (drop n (take m w)))
          (take-take e m w (omega (arith, (line_bounds w 0 e n line).1))
          ∙ sym (first_line-next w (take e w) (drop n w) next));
    }

-- after one line more
pub walk_more : {w : List ℕ} {at n : ℕ} → HasWalked w at → IsFullLine w at n → HasWalked w n
walk_more {w} {at} {n} walked full =
    let e = full.end in
    let line = full.line in
    let bounds = line_bounds w at e n line in
    let text = take (e - at) (drop at w) in
    let long : 0 < length text =
    omega (arith, length-take (e - at) (drop at w), length-drop at w, bounds.0, bounds.1, line.within, full.some) in
    let next = next_header (drop at w) text (drop n w) (next_at w at e n line) long in
    record {
      after = after_more walked.after full;
      within = line.within;
      seen = walked.seen ++ text ∷ [];
      whole = walked.whole ∙ ap (λ l. walked.seen ++ l) next
          ∙ sym (append_assoc walked.seen (text ∷ []) (lines_before_empty (drop n w)));
      front = λ m few.
          let there = next_at (take m w) at e n (line_take m few line) in
          walked.front m (omega (arith, line.after))
          ∙ ap (λ l. first_line w ∷ (walked.seen ++ l))
          (there.lines_are
          ∙ ap (λ t. t ∷ lines (drop n (take m w)))
          (text_take w at e m (omega (arith, line.after)) (omega (arith, bounds.1))))
          ∙ ap (λ l. first_line w ∷ l) (sym (append_assoc walked.seen (text ∷ []) (lines (drop n (take m w)))));
    }

-- the lines of a head
same_header_lines : (head message : List ℕ)
    → lines head ≡ first_line message ∷ (header_lines message ++ [] ∷ []) → header_lines head ≡ header_lines message
unfolding header_lines
same_header_lines head message e = ap (λ l. before_empty (drop 1 l)) e ∙ before_empty-closed (drop 1 (lines message))

-- the empty line is found
pub walk_end : (w : List ℕ) (at n : ℕ) → HasWalked w at → IsLine w at at n → IsSplit w (take n w) (drop n w)
walk_end w at n walked line =
    let empty : take (at - at) (drop at w) ≡ [] =
    ap (λ k. take k (drop at w)) (let k : at - at ≡ 0 = omega arith in k) in
    let none : length (take (at - at) (drop at w)) ≡ 0 = ap length empty in
    let last : header_lines w ≡ walked.seen =
    walked.whole
    ∙ ap (λ l. walked.seen ++ l)
    (next_empty (drop at w) (take (at - at) (drop at w)) (drop n w) (next_at w at at n line) none)
    ∙ append-nil walked.seen in
    let there = next_at (take n w) at at n (line_take n (omega arith) line) in
    let rest : drop n (take n w) ≡ [] = drop_all n (take n w) (omega (arith, length-take n w)) in
    let text : take (at - at) (drop at (take n w)) ≡ [] =
    ap (λ k. take k (drop at (take n w))) (let k : at - at ≡ 0 = omega arith in k) in
    let lines_are : lines (take n w) ≡ first_line w ∷ (header_lines w ++ [] ∷ []) =
    walked.front n (omega (arith, line.after))
    ∙ ap (λ l. first_line w ∷ (walked.seen ++ l))
    (there.lines_are ∙ ap (λ t. t ∷ lines (drop n (take n w))) text ∙ ap (λ r. [] ∷ lines r) rest)
    ∙ ap (λ l. first_line w ∷ (l ++ [] ∷ [])) (sym last) in
    let len : length (take n w) ≡ n = length-take-le n w line.within in
    let P : ℕ → Type 0 = λ k. IsHead w k in
    record {
      parts = sym (take-append-drop n w);
      is_head = subst P (sym len) (head_here walked.after line);
      lines_are = lines_are;
      same_lines = same_header_lines (take n w) w lines_are;
    }

pub next_ends : (w : List ℕ) (at total : ℕ) → IsMessageLength w total → HasWalked w at → HasNoLine w at → ⊥
next_ends w at total request walked open_line =
    no_head_open w at request.head walked.after.none open_line request.is_head
