-- The words of a printed line, and what it gives to a key.
use Rattle.std.proofs.Common.{◌≡◌, ◌≢◌, ◌∙◌, ℕ, ◌<◌, ◌^◌, ◌==◌, ◌||◌, Bool, true, false, List, [], ◌∷◌, ◌++◌, All, map}
use Rattle.std.proofs.Common.{Option, None, codes, decimal, refl, ap, arith}
use Rattle.std.specs.Prelude.{⊤}
use Rattle.std.proofs.lemmas.Bool.{ne_eqb}
use Rattle.std.proofs.lemmas.List.{append-nil}
use Rattle.std.proofs.lemmas.List.Elements.{All-append, All-cons, All-head, All-nil, All-tail}
use Rattle.std.specs.Option.{option_to_list}
use Rattle.std.proofs.lemmas.List.Splits.{slice_split_at, slice_split_none}
use Rattle.plan_cert.proofs.DecimalLemmas.{not_in_decimal}
use Rattle.cli_args.specs.Settings.{setting_value, values_of}
use Rattle.cli_args.specs.ArgumentText.{Setting, number_setting, setting_text}
use Rattle.cli_args.proofs.SettingLemmas.{are_plain, picked, values_read}
use Rattle.cli_args.proofs.KeyValueLemmas.{values_of-append}
use Rattle.vod_base.proofs.SplitLemmas.{none_is}
use Rattle.cli_errors.proofs.NumberTextLemmas.{HasNo}
use Rattle.offline_commands.specs.TextLaws.{words_in}

-- bytes of a word: no blank and no line's end
abbrev pub gap : ℕ → Bool
gap b = (b == 32) || (b == 10)

abbrev pub IsWord : List ℕ → Type 0
IsWord text = All (λ b. gap b ≡ false) text

pub apart : (c : ℕ) → c ≢ 32 → c ≢ 10 → gap c ≡ false
apart c blank end = rw (ne_eqb c 32 blank) (ne_eqb c 10 end)

pub is-word : (text : List ℕ) → HasNo 32 text → HasNo 10 text → IsWord text
is-word [] blank end = All-nil (λ b. gap b ≡ false)
is-word (c ∷ text) blank end =
    All-cons (λ b. gap b ≡ false) c text
    (apart c (All-head (λ b. b ≢ 32) c text blank) (All-head (λ b. b ≢ 10) c text end))
    (is-word text (All-tail (λ b. b ≢ 32) c text blank) (All-tail (λ b. b ≢ 10) c text end))

-- a key and a number
pub number-word : (key : List ℕ) (n : ℕ) → n < 2 ^ 64 → HasNo 32 key → HasNo 10 key
    → IsWord (setting_text (number_setting key n))
number-word key n small blank end =
    is-word (key ++ (codes "=" ++ decimal n))
    (All-append (λ b. b ≢ 32) key (61 ∷ decimal n) blank
    (All-append (λ b. b ≢ 32) (codes "=") (decimal n) (none_is 32 (codes "=") refl)
    (not_in_decimal 32 n small (λ within. omega (arith, within.0)))))
    (All-append (λ b. b ≢ 10) key (61 ∷ decimal n) end
    (All-append (λ b. b ≢ 10) (codes "=") (decimal n) (none_is 10 (codes "=") refl)
    (not_in_decimal 10 n small (λ within. omega (arith, within.0)))))

-- so are words
unfoldable pub AreWords : List Setting → Type 0
AreWords [] = ⊤
AreWords (s ∷ settings) = IsWord (setting_text s) × AreWords settings

pub all-words : (settings : List Setting) → AreWords settings → All (λ s. IsWord (setting_text s)) settings
unfolding AreWords
all-words [] are = All-nil (λ s. IsWord (setting_text s))
all-words (s ∷ settings) are = All-cons (λ x. IsWord (setting_text x)) s settings are.0 (all-words settings are.1)

-- a line from its second word on, with its end
unfoldable pub line_rest : List ℕ → List Setting → List ℕ
line_rest end [] = end
line_rest end (s ∷ settings) = 32 ∷ (setting_text s ++ line_rest end settings)

-- how a line ends, and what stands after its last word
abbrev pub IsLineEnd : List ℕ → List (List ℕ) → Type 0
IsLineEnd end back = (word : List ℕ) → IsWord word → words_in (word ++ end) ≡ word ∷ back

pub ended : IsLineEnd (10 ∷ []) ([] ∷ [])
ended word is = slice_split_at gap word 10 [] is refl

pub unended : IsLineEnd [] []
unended word is = ap words_in (append-nil word) ∙ slice_split_none gap word is

-- the end of a line, with the words that it has
pub record LineEnd : Type 0 where
  pub end : List ℕ
  pub words : List (List ℕ)
  pub ends : IsLineEnd end words

pub line-words : (first : List ℕ) (settings : List Setting) (line_end : LineEnd) → IsWord first →
    All (λ s. IsWord (setting_text s)) settings →
    words_in (first ++ line_rest line_end.end settings) ≡ first ∷ (map setting_text settings ++ line_end.words)
unfolding line_rest
line-words first [] line_end word words = line_end.ends first word
line-words first (s ∷ settings) line_end word words =
    slice_split_at gap first 32 (setting_text s ++ line_rest line_end.end settings) word refl
    ∙ ap (λ (l : List (List ℕ)). first ∷ l)
    (line-words (setting_text s) settings line_end (All-head (λ x. IsWord (setting_text x)) s settings words)
    (All-tail (λ x. IsWord (setting_text x)) s settings words))

-- the first word of a line, which sets no value of a key
pub record FirstWord (key first : List ℕ) : Type 0 where
  pub word : IsWord first
  pub none : setting_value key first ≡ None

-- what a line gives to a key that neither its first word has nor what stands after its last one
pub line-values : {key first : List ℕ} (line_end : LineEnd) (settings : List Setting) →
    All (λ s. IsWord (setting_text s)) settings → FirstWord key first → values_of key line_end.words ≡ [] →
    are_plain settings ≡ true →
    values_of key (words_in (first ++ line_rest line_end.end settings)) ≡ picked key settings
line-values {key} {first} line_end settings words first_word empty plain =
    ap (values_of key) (line-words first settings line_end first_word.word words)
    ∙ ap (λ (o : Option (List ℕ)). option_to_list o ++ values_of key
    (map setting_text settings ++ line_end.words)) first_word.none
    ∙ values_of-append key (map setting_text settings) line_end.words
    ∙ ap (λ (vs : List (List ℕ)). values_of key (map setting_text settings) ++ vs) empty
    ∙ append-nil (values_of key (map setting_text settings)) ∙ values_read key settings plain
