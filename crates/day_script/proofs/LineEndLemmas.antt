-- How the lines of a script end, and that empty ones say nothing.
use Rattle.std.proofs.Common.{◌≡◌, ◌≢◌, ◌-◌, ◌==◌, ℕ, List, [], ◌∷◌, ◌++◌, All, length, take, get_or, slice_index}
use Rattle.std.proofs.Common.{Option, Some, None, arith, refl, sym, ap, ◌∙◌, ne_eqb}
use Rattle.std.specs.Option.{option_and_then}
use Rattle.std.proofs.lemmas.Bool.{cond-false, cond-true, eq-eqb}
use Rattle.std.proofs.lemmas.List.{append_assoc, get_or_at, length-append, take_at}
use Rattle.std.proofs.lemmas.List.Elements.{All-append, All-cons, All-nil}
use Rattle.day_script.specs.TextLines.{lines_of_script, without_return}
use Rattle.day_script.specs.ScriptReading.{Reading, line_read, lines_read}
use Rattle.day_script.proofs.TextSplitLemmas.{script-line, script-rest}

pub line-ended : (line rest : List ℕ) → All (λ b. b ≢ 10) line → slice_index line (length line - 1) ≢ 13
    → lines_of_script (line ++ 10 ∷ rest) ≡ line ∷ lines_of_script rest
line-ended line rest none other =
    script-line line rest none
    ∙ ap (λ l. l ∷ lines_of_script rest)
    (cond-false (slice_index line (length line - 1) == 13) (take (length line - 1) line) line
    (ne_eqb (slice_index line (length line - 1)) 13 other))

cut-return : (line : List ℕ) → without_return (line ++ 13 ∷ []) ≡ line
cut-return line =
    let whole = line ++ 13 ∷ [] in
    let count : length whole - 1 ≡ length line = omega (arith, length-append line (13 ∷ [])) in
    let last : slice_index whole (length whole - 1) ≡ 13 =
    ap (λ n. get_or whole n 0) count ∙ get_or_at line 13 [] 0 (length line) refl in
    cond-true (slice_index whole (length whole - 1) == 13) (take (length whole - 1) whole) whole
    (eq-eqb (slice_index whole (length whole - 1)) 13 last)
    ∙ ap (λ n. take n whole) count ∙ take_at line (13 ∷ []) (length line) refl

pub line-returned : (line rest : List ℕ) → All (λ b. b ≢ 10) line
    → lines_of_script (line ++ 13 ∷ 10 ∷ rest) ≡ line ∷ lines_of_script rest
line-returned line rest none =
    let front = line ++ 13 ∷ [] in
    let other : 13 ≢ 10 = λ same. absurd (omega (arith, same)) in
    ap lines_of_script (sym (append_assoc line (13 ∷ []) (10 ∷ rest)))
    ∙ script-line front rest
    (All-append (λ b. b ≢ 10) line (13 ∷ []) none (All-cons (λ b. b ≢ 10) 13 [] other (All-nil (λ b. b ≢ 10))))
    ∙ ap (λ l. l ∷ lines_of_script rest) (cut-return line)

pub line-last : (line : List ℕ) → All (λ b. b ≢ 10) line → line ≢ [] → lines_of_script line ≡ line ∷ []
line-last line none some = script-rest line some none

then-same : (o : Option Reading) (lines others : List (List ℕ))
    → ((r : Reading) → lines_read r lines ≡ lines_read r others)
    → option_and_then (λ n. lines_read n lines) o ≡ option_and_then (λ n. lines_read n others) o
then-same None lines others same = refl
then-same (Some r) lines others same = same r

pub empty-line : (reading : Reading) (before after : List (List ℕ))
    → lines_read reading (before ++ [] ∷ after) ≡ lines_read reading (before ++ after)
empty-line reading [] after = refl
empty-line reading (line ∷ before) after =
    then-same (line_read reading line) (before ++ [] ∷ after) (before ++ after) (λ r. empty-line r before after)
