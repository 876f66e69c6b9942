-- Texts that are lines by themselves: each with its CR LF, and with an empty line as a head.
use Rattle.std.proofs.Common.{◌≡◌, ◌≢◌, ℕ, ◌+◌, ◌-◌, ◌<◌, ◌&&◌, ◌==◌, true, false, not, nat_lt, List, [], ◌∷◌, ◌++◌}
use Rattle.std.proofs.Common.{All, codes, length, get_or, take, drop, refl, sym, ap, subst, ◌∙◌, arith, inl, inr}
use Rattle.std.proofs.Common.{ne_eqb, eq-eqb}
use Rattle.std.specs.Str.Lines.{lines, strip_carriage_return}
use Rattle.std.proofs.lemmas.Bool.{cases_lt, and_from, both_ways, cond-true}
use Rattle.std.proofs.lemmas.Bool.Decides.{nat_tests}
use Rattle.std.proofs.lemmas.List.{append_assoc, length-append, take_at, drop_at, get_or_append_left}
use Rattle.std.proofs.lemmas.List.{get_or-append_right}
use Rattle.std.proofs.lemmas.List.Elements.{All-cons, All-head, All-tail, All-weaker, All-from_get_or}
use Rattle.std.proofs.lemmas.List.Folds.{list_all_at}
use Rattle.vod_base.specs.Lines.{IsLine}
use Rattle.rtsp_text.specs.Lines.{is_one_line, before_empty, first_line, header_lines, IsSplit}
use Rattle.rtsp_text.proofs.HeadEnds.{HasWalked, walk_first, walk_more, walk_end}
use Rattle.rtsp_text.proofs.SingleLineTexts.{one_line-append}
use Rattle.rtsp_text.proofs.LineIteration.{lines-at, before_empty-all}

-- a text that is a line by itself
pub record IsLineText (text : List ℕ) : Type 0 where
  pub some : 0 < length text
  pub one_line : is_one_line text ≡ true

-- each text as a line
abbrev pub flat : List (List ℕ) → List ℕ
flat [] = []
flat (t ∷ ts) = (t ++ codes "\r\n") ++ flat ts

pub other_byte : (t : List ℕ) (k : ℕ) → is_one_line t ≡ true → k < length t → get_or t k 0 ≢ 10
other_byte t k all inside = λ feed.
    let P : ℕ → Type 0 = λ n. not (n == 10) ≡ false in
    let fails : not (get_or t k 0 == 10) ≡ false = subst P (sym feed) refl in
    both_ways (is_one_line t) (list_all_at (λ byte. not (byte == 10)) t k 0 inside fails) all

no_feed : (t : List ℕ) → is_one_line t ≡ true → All (λ b. (b == 10) ≡ false) t
no_feed t all =
    All-from_get_or (λ b. (b == 10) ≡ false) t 0 (λ k inside. ne_eqb (get_or t k 0) 10 (other_byte t k all inside))

-- the line that stands after these bytes
pub line_here : (a t rest : List ℕ) → is_one_line t ≡ true
    → IsLine (a ++ (t ++ 13 ∷ 10 ∷ rest)) (length a) (length a + length t) (length a + length t + 2)
line_here a t rest one =
    let w = a ++ (t ++ 13 ∷ 10 ∷ rest) in
    let size : length w ≡ length a + (length t + (length rest + 2)) =
    length-append a (t ++ 13 ∷ 10 ∷ rest) ∙ omega (arith, length-append t (13 ∷ 10 ∷ rest)) in
    let at : (k j : ℕ) → k ≡ length a + (length t + j) → get_or w k 0 ≡ get_or (13 ∷ 10 ∷ rest) j 0 =
    λ k j is. get_or-append_right a (t ++ 13 ∷ 10 ∷ rest) (length a) k 0 refl (omega (arith, is))
    ∙ get_or-append_right t (13 ∷ 10 ∷ rest) (length t) (k - length a) 0 refl (omega (arith, is))
    ∙ ap (λ n. get_or (13 ∷ 10 ∷ rest) n 0) (let n : k - length a - length t ≡ j = omega (arith, is) in n) in
    let cr : get_or w (length a + length t + 2 - 2) 0 ≡ 13 = at (length a + length t + 2 - 2) 0 (omega arith) in
    record {
      after = omega arith;
      within = omega (arith, size);
      feed = at (length a + length t + 2 - 1) 1 (omega arith);
      first = λ k from below. elim (cases_lt (k - length a) (length t)) [
        | inl inside ↦ (λ feed. other_byte t (k - length a) one inside
            (sym (get_or-append_right a (t ++ 13 ∷ 10 ∷ rest) (length a) k 0 refl from
            ∙ get_or_append_left t (13 ∷ 10 ∷ rest) 0 (k - length a) inside) ∙ feed))
        | inr past ↦
            (λ feed. let bad : 13 ≡ 10 = sym (at k 0 (omega (arith, from, below, past))) ∙ feed in omega (arith, bad))
      ];
      text = (let e : length a + length t ≡ length a + length t + 2 - 2 = omega arith in e)
          ∙ sym (cond-true
          (nat_lt (length a + 1) (length a + length t + 2)
          && (get_or w (length a + length t + 2 - 2) 0 == 13)) (length a + length t + 2 - 2)
          (length a + length t + 2 - 1)
          (and_from (nat_lt (length a + 1) (length a + length t + 2))
          (get_or w (length a + length t + 2 - 2) 0 == 13) (grind (arith, nat_tests))
          (eq-eqb (get_or w (length a + length t + 2 - 2) 0) 13 cr)));
    }

-- the lines of such texts are walked over
walk_texts : (a : List ℕ) (texts : List (List ℕ)) (rest : List ℕ) → All IsLineText texts →
    HasWalked (a ++ (flat texts ++ rest)) (length a) →
    HasWalked (a ++ (flat texts ++ rest)) (length a + length (flat texts))
walk_texts a [] rest all walked =
    subst (λ n. HasWalked (a ++ rest) n) (let e : length a ≡ length a + 0 = omega arith in e) walked
walk_texts a (t ∷ ts) rest all walked =
    let line = All-head IsLineText t ts all in
    let m = a ++ (flat (t ∷ ts) ++ rest) in
    let shape : a ++ (t ++ 13 ∷ 10 ∷ (flat ts ++ rest)) ≡ m =
    ap (λ l. a ++ l)
    (sym (append_assoc t (13 ∷ 10 ∷ []) (flat ts ++ rest)) ∙ sym (append_assoc (t ++ codes "\r\n") (flat ts) rest)) in
    let moved : m ≡ (a ++ (t ++ codes "\r\n")) ++ (flat ts ++ rest) =
    ap (λ l. a ++ l) (append_assoc (t ++ codes "\r\n") (flat ts) rest)
    ∙ sym (append_assoc a (t ++ codes "\r\n") (flat ts ++ rest)) in
    let here = subst (λ (w : List ℕ). IsLine w (length a) (length a + length t) (length a + length t + 2)) shape
    (line_here a t (flat ts ++ rest) line.one_line) in
    let next = walk_more walked (record { end = length a + length t; line = here; some = omega (arith, line.some) }) in
    let size : length (a ++ (t ++ codes "\r\n")) ≡ length a + length t + 2 =
    length-append a (t ++ codes "\r\n") ∙ omega (arith, length-append t (codes "\r\n")) in
    let start : HasWalked ((a ++ (t ++ codes "\r\n")) ++ (flat ts ++ rest)) (length (a ++ (t ++ codes "\r\n"))) =
    subst (λ n. HasWalked ((a ++ (t ++ codes "\r\n")) ++ (flat ts ++ rest)) n) (sym size)
    (subst (λ (w : List ℕ). HasWalked w (length a + length t + 2)) moved next) in
    let end = walk_texts (a ++ (t ++ codes "\r\n")) ts rest (All-tail IsLineText t ts all) start in
    let total : length (a ++ (t ++ codes "\r\n")) + length (flat ts) ≡ length a + length (flat (t ∷ ts)) =
    omega (arith, length-append a (t ++ codes "\r\n"), length-append (t ++ codes "\r\n") (flat ts)) in
    subst (λ n. HasWalked m n) total
    (subst (λ (w : List ℕ). HasWalked w (length (a ++ (t ++ codes "\r\n")) + length (flat ts))) (sym moved) end)

-- the lines of such texts
strip-cr : (t : List ℕ) → strip_carriage_return (t ++ 13 ∷ []) ≡ t
strip-cr t =
    let size : length (t ++ 13 ∷ []) - 1 ≡ length t = omega (arith, length-append t (13 ∷ [])) in
    let last : get_or (t ++ 13 ∷ []) (length (t ++ 13 ∷ []) - 1) 0 ≡ 13 =
    ap (λ k. get_or (t ++ 13 ∷ []) k 0) size
    ∙ get_or-append_right t (13 ∷ []) (length t) (length t) 0 refl (omega arith)
    ∙ ap (λ k. get_or (13 ∷ []) k 0) (let z : length t - length t ≡ 0 = omega arith in z) in
    cond-true (get_or (t ++ 13 ∷ []) (length (t ++ 13 ∷ []) - 1) 0 == 13)
    (take (length (t ++ 13 ∷ []) - 1) (t ++ 13 ∷ [])) (t ++ 13 ∷ [])
    (eq-eqb (get_or (t ++ 13 ∷ []) (length (t ++ 13 ∷ []) - 1) 0) 13 last)
    ∙ ap (λ k. take k (t ++ 13 ∷ [])) size ∙ take_at t (13 ∷ []) (length t) refl

lines-line : (t rest : List ℕ) → is_one_line t ≡ true → lines ((t ++ codes "\r\n") ++ rest) ≡ t ∷ lines rest
lines-line t rest one =
    let one' : is_one_line (t ++ 13 ∷ []) ≡ true = one_line-append t (13 ∷ []) one refl in
    ap lines (append_assoc t (codes "\r\n") rest ∙ sym (append_assoc t (13 ∷ []) (10 ∷ rest)))
    ∙ lines-at (t ++ 13 ∷ []) rest (no_feed (t ++ 13 ∷ []) one') ∙ ap (λ l. l ∷ lines rest) (strip-cr t)

lines-flat : (texts : List (List ℕ)) (rest : List ℕ) → All IsLineText texts
    → lines (flat texts ++ rest) ≡ texts ++ lines rest
lines-flat [] rest all = refl
lines-flat (t ∷ ts) rest all =
    ap lines (append_assoc (t ++ codes "\r\n") (flat ts) rest)
    ∙ lines-line t (flat ts ++ rest) (All-head IsLineText t ts all).one_line
    ∙ ap (λ l. t ∷ l) (lines-flat ts rest (All-tail IsLineText t ts all))

-- lines up to an empty one are a head
pub record IsCore (s : List ℕ) (ts : List (List ℕ)) (body : List ℕ) : Type 0 where
  pub split : IsSplit ((flat (s ∷ ts) ++ codes "\r\n") ++ body) (flat (s ∷ ts) ++ codes "\r\n") body
  pub first : first_line ((flat (s ∷ ts) ++ codes "\r\n") ++ body) ≡ s
  pub headers : header_lines (flat (s ∷ ts) ++ codes "\r\n") ≡ ts

lines-empty : (rest : List ℕ) → lines (codes "\r\n" ++ rest) ≡ [] ∷ lines rest
lines-empty rest = lines-line [] rest refl

whole_walked : (s : List ℕ) (ts : List (List ℕ)) (body : List ℕ) → IsLineText s → All IsLineText ts
    → HasWalked ((flat (s ∷ ts) ++ codes "\r\n") ++ body) (length (flat (s ∷ ts)))
whole_walked s ts body one all =
    let rest = flat ts ++ (codes "\r\n" ++ body) in
    let m = (flat (s ∷ ts) ++ codes "\r\n") ++ body in
    let moved : (s ++ codes "\r\n") ++ rest ≡ m =
    sym (append_assoc (s ++ codes "\r\n") (flat ts) (codes "\r\n" ++ body))
    ∙ sym (append_assoc (flat (s ∷ ts)) (codes "\r\n") body) in
    let zero : 0 + length s ≡ length s = omega arith in
    let line : IsLine (s ++ 13 ∷ 10 ∷ rest) 0 (length s) (length s + 2) =
    subst (λ k. IsLine (s ++ 13 ∷ 10 ∷ rest) 0 k (k + 2)) zero (line_here [] s rest one.one_line) in
    let first : HasWalked (s ++ 13 ∷ 10 ∷ rest) (length s + 2) =
    walk_first (s ++ 13 ∷ 10 ∷ rest) (length s) (length s + 2) line in
    let size : length s + 2 ≡ length (s ++ codes "\r\n") = omega (arith, length-append s (codes "\r\n")) in
    let start : HasWalked ((s ++ codes "\r\n") ++ rest) (length (s ++ codes "\r\n")) =
    subst (λ n. HasWalked ((s ++ codes "\r\n") ++ rest) n) size
    (subst (λ (w : List ℕ). HasWalked w (length s + 2)) (sym (append_assoc s (codes "\r\n") rest)) first) in
    let end = walk_texts (s ++ codes "\r\n") ts (codes "\r\n" ++ body) all start in
    subst (λ n. HasWalked m n) (sym (length-append (s ++ codes "\r\n") (flat ts)))
    (subst (λ (w : List ℕ). HasWalked w (length (s ++ codes "\r\n") + length (flat ts))) moved end)

pub core : (s : List ℕ) (ts : List (List ℕ)) (body : List ℕ) → IsLineText s → All IsLineText ts → IsCore s ts body
unfolding first_line header_lines
core s ts body one all =
    let front = flat (s ∷ ts) in
    let n = length front in
    let m = (front ++ codes "\r\n") ++ body in
    let every = All-cons IsLineText s ts one all in
    let zero : n + 0 ≡ n = omega arith in
    let moved : front ++ (codes "\r\n" ++ body) ≡ m = sym (append_assoc front (codes "\r\n") body) in
    let last : IsLine m n n (n + 2) =
    subst (λ (w : List ℕ). IsLine w n n (n + 2)) moved
    (subst (λ k. IsLine (front ++ (codes "\r\n" ++ body)) n k (k + 2)) zero (line_here front [] body refl)) in
    let ended = walk_end m n (n + 2) (whole_walked s ts body one all) last in
    let size : length (front ++ codes "\r\n") ≡ n + 2 = length-append front (codes "\r\n") in
    let head_is : take (n + 2) m ≡ front ++ codes "\r\n" = take_at (front ++ codes "\r\n") body (n + 2) size in
    let body_is : drop (n + 2) m ≡ body = drop_at (front ++ codes "\r\n") body (n + 2) size in
    let all_lines : lines m ≡ (s ∷ ts) ++ ([] ∷ lines body) =
    ap lines (append_assoc front (codes "\r\n") body) ∙ lines-flat (s ∷ ts) (codes "\r\n" ++ body) every
    ∙ ap (λ l. (s ∷ ts) ++ l) (lines-empty body) in
    let head_lines : lines (front ++ codes "\r\n") ≡ (s ∷ ts) ++ ([] ∷ []) =
    lines-flat (s ∷ ts) (codes "\r\n") every ∙ ap (λ l. (s ∷ ts) ++ l) (lines-empty []) in
    record {
      split = subst (λ (b : List ℕ). IsSplit m (front ++ codes "\r\n") b) body_is
          (subst (λ (h : List ℕ). IsSplit m h (drop (n + 2) m)) head_is ended);
      first = ap (λ ls. get_or ls 0 []) all_lines;
      headers = ap (λ ls. before_empty (drop 1 ls)) head_lines
          ∙ before_empty-all ts [] (All-weaker IsLineText (λ text. 0 < length text) (λ text line. line.some) ts all);
    }
