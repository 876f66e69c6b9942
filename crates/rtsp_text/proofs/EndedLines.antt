-- A head of lines that end with LF or CR LF is found.
use Rattle.std.proofs.Common.{◌≡◌, ◌≢◌, ℕ, ◌+◌, ◌-◌, ◌<◌, ◌≤◌, ◌&&◌, ◌==◌, Bool, true, false, nat_lt, List, [], ◌∷◌}
use Rattle.std.proofs.Common.{◌++◌, All, flat_map, length, get_or, refl, sym, ap, subst, ◌∙◌, arith, inl, inr, ne_eqb}
use Rattle.std.proofs.lemmas.Bool.{cases_lt, cond-false}
use Rattle.std.proofs.lemmas.Bool.Decides.{nat_tests}
use Rattle.std.proofs.lemmas.List.{append_assoc, length-append, get_or_append_left, get_or-append_right}
use Rattle.std.proofs.lemmas.List.Elements.{All-head, All-tail}
use Rattle.vod_base.specs.Lines.{IsLine}
use Rattle.interleave.specs.Heads.{IsHead}
use Rattle.rtsp_text.specs.Lines.{is_one_line}
use Rattle.rtsp_text.specs.TerminatedLines.{EndedLine, line_bytes, head_bytes, IsEnded, IsHeader, IsEmpty}
use Rattle.rtsp_text.proofs.HeadEnds.{IsAfterLine, after_first, after_more, head_here}
use Rattle.rtsp_text.proofs.LineTexts.{line_here, other_byte}

and_right_false : (p q : Bool) → q ≡ false → (p && q) ≡ false
and_right_false true q h = h
and_right_false false q h = refl

and_left_false : (p q : Bool) → p ≡ false → (p && q) ≡ false
and_left_false p q h = rw h refl

empty_line : (m n : ℕ) → n ≤ 0 → nat_lt (m + 1) (m + n + 1) ≡ false
empty_line m n none = grind (arith, nat_tests)

-- the bytes of a text that stands after `a`
text_byte : (a t rest : List ℕ) (k : ℕ) → length a ≤ k → k < length a + length t
    → get_or (a ++ (t ++ 10 ∷ rest)) k 0 ≡ get_or t (k - length a) 0
text_byte a t rest k from below =
    get_or-append_right a (t ++ 10 ∷ rest) (length a) k 0 refl from
    ∙ get_or_append_left t (10 ∷ rest) 0 (k - length a) (omega (arith, from, below))

-- no CR is before the LF of a line that ends with LF alone
no_cr : (a t rest : List ℕ) → (0 < length t → get_or t (length t - 1) 0 ≢ 13)
    → (nat_lt (length a + 1) (length a + length t + 1)
    && (get_or (a ++ (t ++ 10 ∷ rest)) (length a + length t + 1 - 2) 0 == 13)) ≡ false
no_cr a t rest bare =
    elim (cases_lt 0 (length t)) [
      | inl some ↦ (
          let same : get_or (a ++ (t ++ 10 ∷ rest)) (length a + length t + 1 - 2) 0 ≡ get_or t (length t - 1) 0 =
          text_byte a t rest (length a + length t + 1 - 2) (omega (arith, some)) (omega (arith, some))
          ∙ ap (λ n. get_or t n 0) (let n : length a + length t + 1 - 2 - length a ≡ length t - 1 =
          omega (arith, some) in n) in
          and_right_false (nat_lt (length a + 1) (length a + length t + 1))
          (get_or (a ++ (t ++ 10 ∷ rest)) (length a + length t + 1 - 2) 0 == 13)
          (ne_eqb (get_or (a ++ (t ++ 10 ∷ rest)) (length a + length t + 1 - 2) 0) 13
          (λ e. bare some (sym same ∙ e)))
          )
      | inr none ↦
          and_left_false (nat_lt (length a + 1) (length a + length t + 1))
          (get_or (a ++ (t ++ 10 ∷ rest)) (length a + length t + 1 - 2) 0 == 13)
          (empty_line (length a) (length t) (omega (arith, none)))
    ]

-- the line that ends with LF alone and stands after these bytes
line_here_lf : (a t rest : List ℕ) → is_one_line t ≡ true → (0 < length t → get_or t (length t - 1) 0 ≢ 13)
    → IsLine (a ++ (t ++ 10 ∷ rest)) (length a) (length a + length t) (length a + length t + 1)
line_here_lf a t rest one bare =
    let w = a ++ (t ++ 10 ∷ rest) in
    let size : length w ≡ length a + (length t + (length rest + 1)) =
    length-append a (t ++ 10 ∷ rest) ∙ omega (arith, length-append t (10 ∷ rest)) in
    record {
      after = omega arith;
      within = omega (arith, size);
      feed = get_or-append_right a (t ++ 10 ∷ rest) (length a) (length a + length t + 1 - 1) 0 refl (omega arith)
          ∙ get_or-append_right t (10 ∷ rest) (length t) (length a + length t + 1 - 1 - length a) 0 refl (omega arith)
          ∙ ap (λ n. get_or (10 ∷ rest) n 0)
          (let n : length a + length t + 1 - 1 - length a - length t ≡ 0 = omega arith in n);
      first = λ k from below feed. other_byte t (k - length a) one (omega (arith, from, below))
          (sym (text_byte a t rest k from (omega (arith, below))) ∙ feed);
      text = (let e : length a + length t ≡ length a + length t + 1 - 1 = omega arith in e)
          ∙ sym (cond-false
          (nat_lt (length a + 1) (length a + length t + 1)
          && (get_or w (length a + length t + 1 - 2) 0 == 13)) (length a + length t + 1 - 2)
          (length a + length t + 1 - 1) (no_cr a t rest bare));
    }

-- the line that stands after these bytes, however it ends
crlf_here : (a t rest : List ℕ) → is_one_line t ≡ true
    → IsLine (a ++ ((t ++ 13 ∷ 10 ∷ []) ++ rest)) (length a) (length a + length t)
    (length a + length (t ++ 13 ∷ 10 ∷ []))
crlf_here a t rest one =
    let size : length a + length t + 2 ≡ length a + length (t ++ 13 ∷ 10 ∷ []) =
    omega (arith, length-append t (13 ∷ 10 ∷ [])) in
    subst (λ n. IsLine (a ++ ((t ++ 13 ∷ 10 ∷ []) ++ rest)) (length a) (length a + length t) n) size
    (subst (λ (w : List ℕ). IsLine (a ++ w) (length a) (length a + length t) (length a + length t + 2))
    (sym (append_assoc t (13 ∷ 10 ∷ []) rest)) (line_here a t rest one))

lf_here : (a t rest : List ℕ) → is_one_line t ≡ true → (0 < length t → get_or t (length t - 1) 0 ≢ 13)
    → IsLine (a ++ ((t ++ 10 ∷ []) ++ rest)) (length a) (length a + length t) (length a + length (t ++ 10 ∷ []))
lf_here a t rest one bare =
    let size : length a + length t + 1 ≡ length a + length (t ++ 10 ∷ []) = omega (arith, length-append t (10 ∷ [])) in
    subst (λ n. IsLine (a ++ ((t ++ 10 ∷ []) ++ rest)) (length a) (length a + length t) n) size
    (subst (λ (w : List ℕ). IsLine (a ++ w) (length a) (length a + length t) (length a + length t + 1))
    (sym (append_assoc t (10 ∷ []) rest)) (line_here_lf a t rest one bare))

here : (a : List ℕ) (line : EndedLine) (rest : List ℕ) → IsEnded line
    → IsLine (a ++ (line_bytes line ++ rest)) (length a) (length a + length line.text)
    (length a + length (line_bytes line))
here a line rest ended =
    let P : List ℕ → Type 0 =
    λ e. IsLine (a ++ ((line.text ++ e) ++ rest)) (length a) (length a + length line.text)
    (length a + length (line.text ++ e)) in
    elim ended.end_is [
      | inl crlf ↦ subst P (sym crlf) (crlf_here a line.text rest ended.one_line)
      | inr lf ↦ subst P (sym lf.0) (lf_here a line.text rest ended.one_line lf.1)
    ]

-- the header lines are walked over
walk : (a : List ℕ) (headers : List EndedLine) (rest : List ℕ) → All IsHeader headers →
    IsAfterLine (a ++ (flat_map line_bytes headers ++ rest)) (length a) →
    IsAfterLine (a ++ (flat_map line_bytes headers ++ rest)) (length a + length (flat_map line_bytes headers))
walk a [] rest all at = subst (λ n. IsAfterLine (a ++ rest) n) (let e : length a ≡ length a + 0 = omega arith in e) at
walk a (l ∷ ls) rest all at =
    let header = All-head IsHeader l ls all in
    let w = a ++ (flat_map line_bytes (l ∷ ls) ++ rest) in
    let tail = flat_map line_bytes ls ++ rest in
    let shape : a ++ (line_bytes l ++ tail) ≡ w =
    ap (λ t. a ++ t) (sym (append_assoc (line_bytes l) (flat_map line_bytes ls) rest)) in
    let moved : w ≡ (a ++ line_bytes l) ++ tail = sym shape ∙ sym (append_assoc a (line_bytes l) tail) in
    let n = length a + length (line_bytes l) in
    let line : IsLine w (length a) (length a + length l.text) n =
    subst (λ (v : List ℕ). IsLine v (length a) (length a + length l.text) n) shape (here a l tail header.is_ended) in
    let next = after_more at
    (record { end = length a + length l.text; line = line; some = λ e. omega (arith, e, header.some) }) in
    let size : n ≡ length (a ++ line_bytes l) = sym (length-append a (line_bytes l)) in
    let start : IsAfterLine ((a ++ line_bytes l) ++ tail) (length (a ++ line_bytes l)) =
    subst (λ (v : List ℕ). IsAfterLine v (length (a ++ line_bytes l))) moved (subst (λ k. IsAfterLine w k) size next) in
    let end = walk (a ++ line_bytes l) ls rest (All-tail IsHeader l ls all) start in
    let total : length (a ++ line_bytes l) + length (flat_map line_bytes ls)
    ≡ length a + length (flat_map line_bytes (l ∷ ls)) =
    omega (arith, length-append a (line_bytes l), length-append (line_bytes l) (flat_map line_bytes ls)) in
    subst (λ k. IsAfterLine w k) total
    (subst (λ (v : List ℕ). IsAfterLine v (length (a ++ line_bytes l) + length (flat_map line_bytes ls)))
    (sym moved) end)

-- the lines of a head
pub record AreHeadLines (first : EndedLine) (headers : List EndedLine) (last : EndedLine) : Type 0 where
  pub first_is : IsEnded first
  pub headers_are : All IsHeader headers
  pub last_is : IsEmpty last

-- the head is found
pub head_found : {first : EndedLine} {headers : List EndedLine} {last : EndedLine} (later : List ℕ) →
    AreHeadLines first headers last →
    IsHead (head_bytes first headers last ++ later) (length (head_bytes first headers last))
head_found {first} {headers} {last} later lines =
    let a = line_bytes first in
    let fields = flat_map line_bytes headers in
    let rest = line_bytes last ++ later in
    let w = head_bytes first headers last ++ later in
    let shape : a ++ (fields ++ rest) ≡ w =
    sym (append_assoc a fields rest) ∙ sym (append_assoc (a ++ fields) (line_bytes last) later) in
    let text_end : 0 + length first.text ≡ length first.text = omega arith in
    let next : 0 + length a ≡ length a = omega arith in
    let zero : IsLine (a ++ (fields ++ rest)) 0 (length first.text) (length a) =
    subst (λ k. IsLine (a ++ (fields ++ rest)) 0 (length first.text) k) next
    (subst (λ k. IsLine (a ++ (fields ++ rest)) 0 k (0 + length a)) text_end
    (here [] first (fields ++ rest) lines.first_is)) in
    let start = after_first (a ++ (fields ++ rest)) (length first.text) (length a) zero in
    let at = walk a headers rest lines.headers_are start in
    let n = length a + length fields in
    let size : n ≡ length (a ++ fields) = sym (length-append a fields) in
    let no_text : length (a ++ fields) + length last.text ≡ length (a ++ fields) =
    ap (λ (t : List ℕ). length (a ++ fields) + length t) lines.last_is.none ∙ omega arith in
    let there : IsLine ((a ++ fields) ++ rest) (length (a ++ fields)) (length (a ++ fields) + length last.text)
    (length (a ++ fields) + length (line_bytes last)) =
    here (a ++ fields) last later lines.last_is.is_ended in
    let line : IsLine w (length (a ++ fields)) (length (a ++ fields))
    (length (a ++ fields) + length (line_bytes last)) =
    subst (λ (v : List ℕ). IsLine v (length (a ++ fields)) (length (a ++ fields))
    (length (a ++ fields) + length (line_bytes last))) (sym (append_assoc (a ++ fields) (line_bytes last) later))
    (subst (λ k. IsLine ((a ++ fields) ++ rest) (length (a ++ fields)) k
    (length (a ++ fields) + length (line_bytes last))) no_text there) in
    let done : IsAfterLine w (length (a ++ fields)) =
    subst (λ (v : List ℕ). IsAfterLine v (length (a ++ fields))) shape
    (subst (λ k. IsAfterLine (a ++ (fields ++ rest)) k) size at) in
    subst (λ k. IsHead w k) (sym (length-append (a ++ fields) (line_bytes last)))
    (head_here done line)
