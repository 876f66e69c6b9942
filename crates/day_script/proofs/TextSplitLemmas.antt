-- Texts that are split at a byte, against their lines and words.
use Rattle.std.proofs.Common.{◌≡◌, ◌≢◌, ℕ, false, List, [], ◌∷◌, ◌++◌, All, map, refl, sym, ap, ◌∙◌, ne_eqb, Bor}
use Rattle.std.proofs.lemmas.Bool.{cond-false}
use Rattle.std.proofs.lemmas.List.{append_assoc, map-append}
use Rattle.std.proofs.lemmas.List.Elements.{All-head, All-tail}
use Rattle.std.specs.List.{slice_split, onto_first}
use Rattle.vod_base.specs.Splits.{IsSplitAtFirst}
use Rattle.vod_base.proofs.SplitLemmas.{none_is}
use Rattle.plan_cert.proofs.GrammarLemmas.{lines-cut, lines-none}
use Rattle.day_script.specs.TextLines.{is_space, lines_of_script, last_line, texts_at, without_return}

words-front : (front after : List ℕ) → All (λ b. b ≢ 32) front
    → slice_split is_space (front ++ 32 ∷ after) ≡ front ∷ slice_split is_space after
words-front [] after none = refl
words-front (x ∷ front) after none =
    let other : is_space x ≡ false = ne_eqb x 32 (All-head (λ b. b ≢ 32) x front none) in
    cond-false (is_space x) ([] ∷ slice_split is_space (front ++ 32 ∷ after))
    (onto_first x (slice_split is_space (front ++ 32 ∷ after))) other
    ∙ ap (onto_first x) (words-front front after (All-tail (λ b. b ≢ 32) x front none))

pub words-cut : (text front after : List ℕ) → IsSplitAtFirst 32 text front after
    → slice_split is_space text ≡ front ∷ slice_split is_space after
words-cut text front after cut = ap (slice_split is_space) cut.parts
    ∙ words-front front after (none_is 32 front cut.first)

pub words-none : (text : List ℕ) → All (λ b. b ≢ 32) text → slice_split is_space text ≡ text ∷ []
words-none [] none = refl
words-none (x ∷ text) none =
    let other : is_space x ≡ false = ne_eqb x 32 (All-head (λ b. b ≢ 32) x text none) in
    cond-false (is_space x) ([] ∷ slice_split is_space text) (onto_first x (slice_split is_space text)) other
    ∙ ap (onto_first x) (words-none text (All-tail (λ b. b ≢ 32) x text none))

-- a line, LF and more lines
pub script-line : (line after : List ℕ) → All (λ b. b ≢ 10) line
    → lines_of_script (line ++ 10 ∷ after) ≡ without_return line ∷ lines_of_script after
script-line line after none = ap (λ ls. map without_return ls.whole ++ last_line ls.rest) (lines-cut line after none)

pub script-cut : (text front after : List ℕ) → IsSplitAtFirst 10 text front after
    → lines_of_script text ≡ without_return front ∷ lines_of_script after
script-cut text front after cut = ap lines_of_script cut.parts ∙ script-line front after (none_is 10 front cut.first)

pub script-last : (c : ℕ) (text : List ℕ) → All (λ b. b ≢ 10) (c ∷ text) → lines_of_script (c ∷ text) ≡ (c ∷ text) ∷ []
script-last c text none = ap (λ ls. map without_return ls.whole ++ last_line ls.rest) (lines-none (c ∷ text) none)

pub script-rest : (text : List ℕ) → text ≢ [] → All (λ b. b ≢ 10) text
    → lines_of_script text ≡ text ∷ lines_of_script []
script-rest [] some none = absurd (some refl)
script-rest (c ∷ text) some none = script-last c text none

-- one more word was put after those before
pub words-more : {after : List (Bor (List ℕ))} {rest next : List ℕ} {whole : List (List ℕ)}
    (before : List (Bor (List ℕ))) (word : Bor (List ℕ)) → after ≡ before ++ word ∷ []
    → IsSplitAtFirst 32 rest word.now next → texts_at before ++ slice_split is_space rest ≡ whole
    → texts_at after ++ slice_split is_space next ≡ whole
words-more {rest} {next} {whole} before word e cut h =
    ap (λ ws. texts_at ws ++ slice_split is_space next) e
    ∙ ap (λ ws. ws ++ slice_split is_space next) (map-append (λ (text : Bor (List ℕ)). text.now) before (word ∷ []))
    ∙ append_assoc (texts_at before) (word.now ∷ []) (slice_split is_space next)
    ∙ ap (λ ws. texts_at before ++ ws) (sym (words-cut rest word.now next cut)) ∙ h

pub words-last : {after : List (Bor (List ℕ))} {whole : List (List ℕ)} (before : List (Bor (List ℕ)))
    (word : Bor (List ℕ)) → after ≡ before ++ word ∷ []
    → All (λ b. b ≢ 32) word.now → texts_at before ++ slice_split is_space word.now ≡ whole → texts_at after ≡ whole
words-last {whole} before word e none h =
    ap texts_at e ∙ map-append (λ (text : Bor (List ℕ)). text.now) before (word ∷ [])
    ∙ ap (λ ws. texts_at before ++ ws) (sym (words-none word.now none)) ∙ h
