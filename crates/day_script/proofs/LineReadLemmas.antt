-- A script that is read line by line.
use Rattle.std.proofs.Common.{◌≡◌, ◌<◌, ◌≤◌, ◌+◌, ◌-◌, ◌⊎◌, ℕ, true, false, ◌&&◌, ◌==◌, not, nat_lt}
use Rattle.std.proofs.Common.{nat_le, List, [], ◌∷◌, ◌++◌, length, take, drop, get_or}
use Rattle.std.proofs.Common.{Option, Some, None, arith, refl, sym, ap, ◌∙◌, add-zero, inl, inr, lit<}
use Rattle.std.proofs.lemmas.Bool.{and_parts, cases_lt}
use Rattle.std.proofs.lemmas.Bool.Decides.{nat_tests}
use Rattle.std.proofs.lemmas.List.{take_more, drop-drop, length-drop, get_or-drop, get_or_past}
use Rattle.std.proofs.lemmas.List.Folds.{list_all_at}
use Rattle.std.proofs.lemmas.Str.{IsUtf8-from_ascii}
use Rattle.std.specs.List.{list_all}
use Rattle.std.specs.Option.{option_and_then}
use Rattle.std.specs.Str.{IsUtf8}
use Rattle.vod_base.specs.Names.{good_name, is_name_byte}
use Rattle.day_script.specs.declared.script_reader.TheConstants.{MAX_LINES}
use Rattle.day_script.specs.TextLines.{lines_of_script}
use Rattle.day_script.specs.ScriptReading.{Reading, line_read, lines_read, nothing_read, IsBadLine}

high-byte : (b : ℕ) → 128 ≤ b → is_name_byte b ≡ false
high-byte b h = grind (arith, nat_tests)

name-small : (name : List ℕ) (i : ℕ) → good_name name ≡ true → i < length name → get_or name i 0 < 128
name-small name i good inside = elim (cases_lt (get_or name i 0) 128) [
  | inl small ↦ small
  | inr high ↦
      let bytes = and_parts (nat_lt 0 (length name) && nat_le (length name) 64 && not (get_or name 0 0 == 46))
      (list_all is_name_byte name) good in
      let wrong : true ≡ false = sym bytes.1
      ∙ list_all_at is_name_byte name i 0 inside (high-byte (get_or name i 0) high) in
      absurd (cc wrong)
]

-- a name is ASCII
pub good-utf8 : (name : List ℕ) → good_name name ≡ true → IsUtf8 name
good-utf8 name good = IsUtf8-from_ascii name (λ i. elim (cases_lt i (length name)) [
  | inl inside ↦ name-small name i good inside
  | inr past ↦ rw (get_or_past name i 0 past) (lit< tt)
])

-- one more line after k of them
pub record NextLine (lines : List (List ℕ)) (k : ℕ) (line : List ℕ) (rest : List (List ℕ)) : Type 0 where
  pub inside : k + 1 ≤ length lines
  pub here : get_or lines k [] ≡ line
  pub front : take (k + 1) lines ≡ take k lines ++ line ∷ []
  pub left : drop (k + 1) lines ≡ rest

pub next-line : (lines : List (List ℕ)) (k : ℕ) (line : List ℕ) (rest : List (List ℕ))
    → drop k lines ≡ line ∷ rest → NextLine lines k line rest
next-line lines k line rest h =
    let count : length (drop k lines) ≡ length rest + 1 = ap length h ∙ omega arith in
    let inside : k + 1 ≤ length lines = omega (arith, count, length-drop k lines) in
    let at : get_or (drop k lines) 0 [] ≡ get_or lines (k + 0) [] = get_or-drop k lines 0 [] in
    let here : get_or lines k [] ≡ line = ap (λ n. get_or lines n []) (sym (add-zero k)) ∙ sym at
    ∙ ap (λ ls. get_or ls 0 []) h in
    let within : k < length lines = omega arith in
    record {
      inside = inside;
      here = here;
      front = take_more lines k [] within ∙ ap (λ l. take k lines ++ l ∷ []) here;
      left = sym (drop-drop 1 k lines) ∙ ap (drop 1) h;
    }

then-some : (o : Option Reading) → option_and_then (λ (n : Reading). Some n) o ≡ o
then-some None = refl
then-some (Some r) = refl

reads-on : (o : Option Reading) (r : Reading) (lines : List (List ℕ)) (line : List ℕ)
    → ((n : Reading) → lines_read n lines ≡ Some r → lines_read n (lines ++ line ∷ []) ≡ line_read r line)
    → option_and_then (λ n. lines_read n lines) o ≡ Some r
    → option_and_then (λ n. lines_read n (lines ++ line ∷ [])) o ≡ line_read r line
reads-on None r lines line again h = cc h
reads-on (Some n) r lines line again h = again n h

-- what is read of lines and one more
pub reads-more : (begun r : Reading) (lines : List (List ℕ)) (line : List ℕ) → lines_read begun lines ≡ Some r
    → lines_read begun (lines ++ line ∷ []) ≡ line_read r line
reads-more begun r [] line h = then-some (line_read begun line) ∙ ap (λ x. line_read x line) (cc h)
reads-more begun r (l ∷ lines) line h = reads-on (line_read begun l) r lines line (λ n e. reads-more n r lines line e) h

-- one more line was read
pub read-next : {line : List ℕ} {rest : List (List ℕ)} {k : ℕ} {r next : Reading} (text : List ℕ)
    → NextLine (lines_of_script text) k line rest
    → lines_read nothing_read (take k (lines_of_script text)) ≡ Some r → line_read r line ≡ Some next
    → lines_read nothing_read (take (k + 1) (lines_of_script text)) ≡ Some next
read-next {line} {k} {r} {next} text at h read =
    ap (lines_read nothing_read) at.front ∙ reads-more nothing_read r (take k (lines_of_script text)) line h ∙ read

-- the next line may not stand there
pub bad-next : {text line : List ℕ} {rest : List (List ℕ)} {k : ℕ} {r : Reading}
    → NextLine (lines_of_script text) k line rest → k ≤ MAX_LINES
    → lines_read nothing_read (take k (lines_of_script text)) ≡ Some r
    → ((k + 1 ≡ 1000001) ⊎ (line_read r line ≡ None)) → IsBadLine text (k + 1)
bad-next {text} {line} {k} {r} at few h here =
    let e : k + 1 - 1 ≡ k = omega arith in
    record {
      reading = r;
      some = omega arith;
      few = omega arith;
      inside = at.inside;
      before = ap (λ n. lines_read nothing_read (take n (lines_of_script text))) e ∙ h;
      here = elim here [
        | inl many ↦ inl many
        | inr none ↦
            inr (ap (λ n. line_read r (get_or (lines_of_script text) n [])) e ∙ ap (line_read r) at.here ∙ none)
      ];
    }
