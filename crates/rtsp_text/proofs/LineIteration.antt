-- Going through a text line by line, compared with the list of all its lines.
use Rattle.std.proofs.Common.{◌≡◌, ◌≢◌, ℕ, ◌+◌, ◌-◌, ◌<◌, ◌&&◌, ◌==◌, ◌≤◌, true, false, nat_lt, List, [], ◌∷◌, ◌++◌}
use Rattle.std.proofs.Common.{All, length, get_or, take, drop, refl, sym, ap, subst, ◌∙◌, arith, inl, inr, ne_eqb}
use Rattle.std.specs.List.{slice_split, prefix_len}
use Rattle.std.specs.Str.Lines.{lines, lines_of_parts, strip_carriage_return}
use Rattle.std.proofs.lemmas.Bool.{cases_Bool, cases_lt, cond-true, cond-false, lt-ltb}
use Rattle.std.proofs.lemmas.Bool.Decides.{nat_tests}
use Rattle.std.proofs.lemmas.List.{take-append-drop, drop_more, take-take, length-take, length-take-le, length-drop}
use Rattle.std.proofs.lemmas.List.{get_or-take}
use Rattle.std.proofs.lemmas.List.Elements.{All-head, All-tail, All-from_get_or}
use Rattle.std.proofs.lemmas.List.Sums.{take_while-cons, count_by-le-length}
use Rattle.std.proofs.lemmas.List.Splits.{slice_split_none, slice_split_at, length-slice_split}
use Rattle.vod_base.specs.Lines.{IsLine, HasNoLine}
use Rattle.rtsp_text.specs.Lines.{before_empty, first_line, lines_before_empty, header_lines, IsNextLine}

-- a part before a newline is a line
parts_more : (x : List ℕ) (parts : List (List ℕ)) → 0 < length parts
    → lines_of_parts (x ∷ parts) ≡ strip_carriage_return x ∷ lines_of_parts parts
parts_more x [] some = absurd (omega (arith, some))
parts_more x (y ∷ parts) some = refl

-- a text that begins with a complete line
pub lines-at : (front after : List ℕ) → All (λ b. (b == 10) ≡ false) front
    → lines (front ++ 10 ∷ after) ≡ strip_carriage_return front ∷ lines after
lines-at front after none =
    ap lines_of_parts (slice_split_at (λ b. b == 10) front 10 after none refl)
    ∙ parts_more front (slice_split (λ b. b == 10) after) (omega (arith, length-slice_split (λ b. b == 10) after))

-- the part of a line before its LF, and its last byte
before_feed : (bytes : List ℕ) (e n : ℕ) → IsLine bytes 0 e n → length (take (n - 1) bytes) ≡ n - 1
before_feed bytes e n line = length-take-le (n - 1) bytes (omega (arith, line.within))

last_before_feed : (bytes : List ℕ) (e n : ℕ) → IsLine bytes 0 e n → 1 < n
    → get_or (take (n - 1) bytes) (length (take (n - 1) bytes) - 1) 0 ≡ get_or bytes (n - 2) 0
last_before_feed bytes e n line more =
    ap (λ k. get_or (take (n - 1) bytes) (k - 1) 0) (before_feed bytes e n line)
    ∙ get_or-take (n - 1) bytes (n - 1 - 1) 0 (omega (arith, more))
    ∙ ap (λ k. get_or bytes k 0) (let e' : n - 1 - 1 ≡ n - 2 = omega arith in e')

-- the text of a line's part before its LF, where a CR is before the LF, another byte, or none
strip-cr : (bytes : List ℕ) (e n : ℕ) → IsLine bytes 0 e n → 1 < n → (get_or bytes (n - 2) 0 == 13) ≡ true
    → strip_carriage_return (take (n - 1) bytes) ≡ take e bytes
strip-cr bytes e n line more cr =
    let text_end : e ≡ n - 2 =
    line.text ∙ cond-true (nat_lt 1 n && (get_or bytes (n - 2) 0 == 13)) (n - 2) (n - 1)
    (grind (arith, nat_tests)) in
    cond-true (get_or (take (n - 1) bytes) (length (take (n - 1) bytes) - 1) 0 == 13)
    (take (length (take (n - 1) bytes) - 1) (take (n - 1) bytes)) (take (n - 1) bytes)
    (ap (λ b. b == 13) (last_before_feed bytes e n line more) ∙ cr)
    ∙ ap (λ k. take (k - 1) (take (n - 1) bytes)) (before_feed bytes e n line)
    ∙ take-take (n - 1 - 1) (n - 1) bytes (omega arith)
    ∙ ap (λ k. take k bytes) (let k' : n - 1 - 1 ≡ e = omega (arith, text_end) in k')

strip-other : (bytes : List ℕ) (e n : ℕ) → IsLine bytes 0 e n → 1 < n → (get_or bytes (n - 2) 0 == 13) ≡ false
    → strip_carriage_return (take (n - 1) bytes) ≡ take e bytes
strip-other bytes e n line more other =
    let text_end : e ≡ n - 1 =
    line.text ∙ cond-false (nat_lt 1 n && (get_or bytes (n - 2) 0 == 13)) (n - 2) (n - 1)
    (grind (arith, nat_tests)) in
    cond-false (get_or (take (n - 1) bytes) (length (take (n - 1) bytes) - 1) 0 == 13)
    (take (length (take (n - 1) bytes) - 1) (take (n - 1) bytes)) (take (n - 1) bytes)
    (ap (λ b. b == 13) (last_before_feed bytes e n line more) ∙ other)
    ∙ ap (λ k. take k bytes) (sym text_end)

strip-empty : (bytes : List ℕ) (e n : ℕ) → IsLine bytes 0 e n → n ≤ 1
    → strip_carriage_return (take (n - 1) bytes) ≡ take e bytes
strip-empty bytes e n line less =
    let one : n - 1 ≡ 0 = omega (arith, less) in
    let text_end : e ≡ 0 =
    line.text ∙ cond-false (nat_lt 1 n && (get_or bytes (n - 2) 0 == 13)) (n - 2) (n - 1)
    (grind (arith, nat_tests)) ∙ one in
    let P : ℕ → Type 0 = λ k. strip_carriage_return (take k bytes) ≡ take e bytes in
    let Q : ℕ → Type 0 = λ k. strip_carriage_return (take 0 bytes) ≡ take k bytes in
    subst P (sym one) (subst Q (sym text_end) refl)

strip-take : (bytes : List ℕ) (e n : ℕ) → IsLine bytes 0 e n → strip_carriage_return (take (n - 1) bytes) ≡ take e bytes
strip-take bytes e n line =
    elim (cases_lt 1 n) [
      | inl more ↦ elim (cases_Bool (get_or bytes (n - 2) 0 == 13)) [
        | inl cr ↦ strip-cr bytes e n line more cr
        | inr other ↦ strip-other bytes e n line more other
      ]
      | inr less ↦ strip-empty bytes e n line less
    ]

-- the first line ends here
pub next_here : (bytes : List ℕ) (e n : ℕ) → IsLine bytes 0 e n → IsNextLine bytes (take e bytes) (drop n bytes)
next_here bytes e n line =
    let back : n - 1 + 1 ≡ n = omega (arith, line.after) in
    let cut : bytes ≡ take (n - 1) bytes ++ 10 ∷ drop n bytes =
    sym (take-append-drop (n - 1) bytes)
    ∙ ap (λ l. take (n - 1) bytes ++ l)
    (drop_more bytes (n - 1) 0 (omega (arith, line.after, line.within)) ∙ rw (line.feed, back) refl) in
    let none : All (λ b. (b == 10) ≡ false) (take (n - 1) bytes) =
    All-from_get_or (λ b. (b == 10) ≡ false) (take (n - 1) bytes) 0 (λ i within.
    let few : i < n - 1 = omega (arith, within, length-take (n - 1) bytes) in
    rw (get_or-take (n - 1) bytes i 0 few)
    (ne_eqb (get_or bytes i 0) 10 (line.first i (omega arith) (omega (arith, few))))) in
    record {
      lines_are = ap lines cut ∙ lines-at (take (n - 1) bytes) (drop n bytes) none
          ∙ ap (λ x. x ∷ lines (drop n bytes)) (strip-take bytes e n line);
      shorter = omega (arith, length-drop n bytes, line.after, line.within);
    }

-- the first line has no end
pub next_open : (bytes : List ℕ) → bytes ≢ [] → HasNoLine bytes 0 → IsNextLine bytes bytes []
next_open [] some none = absurd (some refl)
next_open (x ∷ bytes) some none =
    let all : All (λ b. (b == 10) ≡ false) (x ∷ bytes) =
    All-from_get_or (λ b. (b == 10) ≡ false) (x ∷ bytes) 0
    (λ i within. ne_eqb (get_or (x ∷ bytes) i 0) 10 (none i (omega arith) within)) in
    record {
      lines_are = ap lines_of_parts (slice_split_none (λ b. b == 10) (x ∷ bytes) all)
          ∙ cond-false (length (x ∷ bytes) == 0) [] ((x ∷ bytes) ∷ [])
          (ne_eqb (length (x ∷ bytes)) 0 (λ e. omega (arith, e)));
      shorter = omega arith;
    }

pub first_line-next : (bytes line rest : List ℕ) → IsNextLine bytes line rest → first_line bytes ≡ line
unfolding first_line
first_line-next bytes line rest h = ap (λ ls. get_or ls 0 []) h.lines_are

pub first_line-nil : (bytes : List ℕ) → bytes ≡ [] → bytes ≡ first_line bytes
unfolding first_line
first_line-nil bytes none = none ∙ ap (λ b. first_line b) (sym none)

pub header_lines-next : (bytes line rest : List ℕ) → IsNextLine bytes line rest
    → lines_before_empty rest ≡ header_lines bytes
unfolding header_lines lines_before_empty
header_lines-next bytes line rest h = ap (λ ls. before_empty (drop 1 ls)) (sym h.lines_are)

pub header_lines-nil : (bytes : List ℕ) → bytes ≡ [] → lines_before_empty bytes ≡ header_lines bytes
unfolding header_lines lines_before_empty
header_lines-nil bytes none = let P : List ℕ
    → Type 0 = λ b. lines_before_empty b ≡ header_lines b in subst P (sym none) refl

-- the lines before the first empty one, one line on
before_empty-some : (x : List ℕ) (xs : List (List ℕ)) → 0 < length x → before_empty (x ∷ xs) ≡ x ∷ before_empty xs
before_empty-some x xs some =
    take_while-cons (λ text. nat_lt 0 (length text)) x xs
    ∙ cond-true (nat_lt 0 (length x)) (x ∷ before_empty xs) [] (lt-ltb 0 (length x) some)

before_empty-none : (x : List ℕ) (xs : List (List ℕ)) → length x ≡ 0 → before_empty (x ∷ xs) ≡ []
before_empty-none x xs none =
    take_while-cons (λ text. nat_lt 0 (length text)) x xs
    ∙ cond-false (nat_lt 0 (length x)) (x ∷ before_empty xs) [] (grind (arith, nat_tests))

-- lines up to an empty one
pub before_empty-all : (texts rest : List (List ℕ)) → All (λ text. 0 < length text) texts
    → before_empty (texts ++ [] ∷ rest) ≡ texts
before_empty-all [] rest all = before_empty-none [] rest refl
before_empty-all (t ∷ ts) rest all =
    before_empty-some t (ts ++ [] ∷ rest) (All-head (λ text. 0 < length text) t ts all)
    ∙ ap (λ l. t ∷ l) (before_empty-all ts rest (All-tail (λ text. 0 < length text) t ts all))

pub next_header : (bytes line rest : List ℕ) → IsNextLine bytes line rest → 0 < length line
    → lines_before_empty bytes ≡ line ∷ lines_before_empty rest
unfolding lines_before_empty
next_header bytes line rest h some = ap before_empty h.lines_are ∙ before_empty-some line (lines rest) some

pub next_empty : (bytes line rest : List ℕ) → IsNextLine bytes line rest → length line ≡ 0
    → lines_before_empty bytes ≡ []
unfolding lines_before_empty
next_empty bytes line rest h none = ap before_empty h.lines_are ∙ before_empty-none line (lines rest) none

pub lines_before_empty-nil : (bytes : List ℕ) → bytes ≡ [] → lines_before_empty bytes ≡ []
unfolding lines_before_empty
lines_before_empty-nil bytes none = let P : List ℕ → Type 0 = λ b. lines_before_empty b ≡ [] in subst P (sym none) refl

-- a text has at most as many header lines as bytes
few_parts : (parts : List (List ℕ)) → length (lines_of_parts parts) ≤ length parts
few_parts [] = omega arith
few_parts (x ∷ []) = elim (cases_Bool (length x == 0)) [
  | inl none ↦ rw none (omega arith)
  | inr some ↦ rw some (omega arith)
]
few_parts (x ∷ y ∷ parts) = omega (arith, few_parts (y ∷ parts))

pub header_lines-few : (bytes : List ℕ) → length (header_lines bytes) ≤ length bytes
unfolding header_lines
header_lines-few bytes =
    let parts = slice_split (λ b. b == 10) bytes in
    omega (
      arith,
      length-take (prefix_len (λ text. nat_lt 0 (length text)) (drop 1 (lines bytes))) (drop 1 (lines bytes)),
      length-drop 1 (lines bytes),
      few_parts parts,
      length-slice_split (λ b. b == 10) bytes,
      count_by-le-length (λ b. b == 10) bytes,
    )

-- what stands before the first empty line has no empty line
pub before_empty-closed : (xs : List (List ℕ)) → before_empty (before_empty xs ++ [] ∷ []) ≡ before_empty xs
before_empty-closed [] = refl
before_empty-closed (x ∷ xs) =
    elim (cases_lt 0 (length x)) [
      | inl some ↦ (
          let front : before_empty (x ∷ xs) ≡ x ∷ before_empty xs = before_empty-some x xs some in
          ap (λ l. before_empty (l ++ [] ∷ [])) front
          ∙ before_empty-some x (before_empty xs ++ [] ∷ []) some
          ∙ ap (λ l. x ∷ l) (before_empty-closed xs) ∙ sym front
          )
      | inr none ↦ (
          let front : before_empty (x ∷ xs) ≡ [] = before_empty-none x xs (omega (arith, none)) in
          ap (λ l. before_empty (l ++ [] ∷ [])) front ∙ sym front
          )
    ]

-- what the test of an empty text says
pub some_bytes : (text : List ℕ) → (length text == 0) ≡ false → 0 < length text
some_bytes text h = grind (arith, nat_tests)
