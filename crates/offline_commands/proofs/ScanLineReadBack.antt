-- What the lines of a scan say, read back word by word.
use Rattle.std.proofs.Common.{◌≡◌, ◌≢◌, ◌∙◌, ℕ, ◌<◌, ◌^◌, ◌==◌, ◌||◌, Bool, true, false, List, [], ◌∷◌, ◌++◌, All, map}
use Rattle.std.proofs.Common.{Option, Some, None, codes, decimal, length, get_or, refl, sym, ap, arith}
use Rattle.std.specs.Prelude.{◌≤◌, if◌then◌else◌, ◌&&◌, nat_lt, slice_index_or}
use Rattle.std.specs.List.{after_first, before_first, list_any, position_or_len}
use Rattle.std.specs.Str.{bytes_eq}
use Rattle.std.proofs.lemmas.List.Folds.{list_any-append}
use Rattle.std.proofs.lemmas.List.Sums.{position_or_len_is}
use Rattle.std.proofs.lemmas.Bool.{le-ltb, ne_eqb}
use Rattle.std.proofs.lemmas.List.{append-nil, append_assoc}
use Rattle.std.proofs.lemmas.List.Elements.{All-cons, All-head, All-nil, All-tail}
use Rattle.std.specs.Option.{option_to_list}
use Rattle.std.proofs.lemmas.List.Splits.{slice_split_at}
use Rattle.plan_cert.proofs.DecimalLemmas.{not_in_decimal}
use Rattle.cli_args.specs.Settings.{setting_value, values_of}
use Rattle.cli_args.specs.ArgumentText.{Setting, number_setting, setting_text}
use Rattle.cli_args.proofs.SettingLemmas.{are_plain, picked, values_read}
use Rattle.cli_args.proofs.KeyValueLemmas.{values_of-append}
use Rattle.vod_base.proofs.SplitLemmas.{none_is}
use Rattle.cli_errors.proofs.NumberTextLemmas.{HasNo}
use Rattle.mpeg_scan.specs.declared.units.Kind.{Kind}
use Rattle.mpeg_scan.specs.declared.units.Kind.TheVariants.{I, P, B, D}
use Rattle.mpeg_scan.specs.declared.units.Unit.{Unit as PictureUnit}
use Rattle.offline_commands.specs.ScanText.{film_line, kind_text, unit_line, unit_marks, unit_name, unit_places}
use Rattle.offline_commands.specs.TextLaws.{GivesOnce, IsShortUnit, LineShowsFilm, LineShowsUnit, words_in}
use Rattle.offline_commands.proofs.ScanTextLemmas.{marks}
use Rattle.offline_commands.proofs.LineFieldLemmas.{gap, IsWord, is-word, number-word, AreWords, all-words, line_rest}
use Rattle.offline_commands.proofs.LineFieldLemmas.{IsLineEnd, ended, line-words, line-values}

-- a word without `=` gives no key a value
setting_none : (key word : List ℕ) → HasNo 61 word → setting_value key word ≡ None
setting_none key word none =
    let at : position_or_len (λ b. b == 61) word ≡ length word =
    position_or_len_is (λ b. b == 61) word (length word) 0 (omega arith)
    (λ k less. ne_eqb (get_or word k 0) 61 (none k 0 less)) (λ bad. absurd (omega (arith, bad))) in
    ap (λ (n : ℕ). if nat_lt n (length word)
    && bytes_eq (before_first (λ b. b == 61) word) key then Some (after_first (λ b. b == 61) word) else None) at
    ∙ ap (λ (t : Bool). if t
    && bytes_eq (before_first (λ b. b == 61) word) key then Some (after_first (λ b. b == 61) word)
    else None) (le-ltb (length word) (length word) (omega arith))

number-plain : (n c : ℕ) → n < 2 ^ 64 → (48 ≤ c → c ≤ 57 → ⊥) → HasNo c (decimal n)
number-plain n c small other = not_in_decimal c n small (λ within. other within.0 within.1)

-- a line's end after more words
more-ended : (tail : List ℕ) (back : List (List ℕ)) → words_in tail ≡ back → IsLineEnd (32 ∷ tail) back
more-ended tail back is word plain = slice_split_at gap word 32 tail plain refl
    ∙ ap (λ (l : List (List ℕ)). word ∷ l) is

film_settings : ℕ → ℕ → ℕ → List Setting
film_settings bytes rate pictures =
    number_setting (codes "bytes") bytes ∷ number_setting (codes "rate") rate ∷ number_setting
    (codes "pictures") pictures ∷ []

film-line : (bytes rate pictures : ℕ)
    → film_line bytes rate pictures ≡ codes "film" ++ line_rest (10 ∷ []) (film_settings bytes rate pictures)
unfolding line_rest film_settings
film-line bytes rate pictures =
    append_assoc (codes "film bytes=" ++ decimal bytes ++ codes " rate=" ++ decimal rate ++ codes " pictures=")
    (decimal pictures) (codes "\n")
    ∙ append_assoc (codes "film bytes=" ++ decimal bytes ++ codes " rate=" ++ decimal rate) (codes " pictures=")
    (decimal pictures ++ codes "\n")
    ∙ append_assoc (codes "film bytes=" ++ decimal bytes ++ codes " rate=") (decimal rate)
    (codes " pictures=" ++ (decimal pictures ++ codes "\n"))
    ∙ append_assoc (codes "film bytes=" ++ decimal bytes) (codes " rate=")
    (decimal rate ++ (codes " pictures=" ++ (decimal pictures ++ codes "\n")))
    ∙ append_assoc (codes "film bytes=") (decimal bytes)
    (codes " rate=" ++ (decimal rate ++ (codes " pictures=" ++ (decimal pictures ++ codes "\n"))))

film-words : (bytes rate pictures : ℕ) → bytes < 2 ^ 64 → rate < 2 ^ 64 → pictures < 2 ^ 64
    → All (λ s. IsWord (setting_text s)) (film_settings bytes rate pictures)
unfolding film_settings AreWords
film-words bytes rate pictures few short little =
    all-words (film_settings bytes rate pictures) (
      number-word (codes "bytes") bytes few (none_is 32 (codes "bytes") refl) (none_is 10 (codes "bytes") refl),
      (
        number-word (codes "rate") rate short (none_is 32 (codes "rate") refl) (none_is 10 (codes "rate") refl),
        (
          number-word (codes "pictures") pictures little (none_is 32 (codes "pictures") refl)
              (none_is 10 (codes "pictures") refl),
          tt,
        ),
      ),
    )

-- the three counts of a film's line, in their range
record FilmCounts : Type 0 where
  bytes : ℕ
  rate : ℕ
  pictures : ℕ
  bytes_fit : bytes < 2 ^ 64
  rate_fits : rate < 2 ^ 64
  pictures_fit : pictures < 2 ^ 64

abbrev film_counts : {bytes rate pictures : ℕ} → bytes < 2 ^ 64 → rate < 2 ^ 64 → pictures < 2 ^ 64 → FilmCounts
film_counts {bytes} {rate} {pictures} b r p =
    record { bytes = bytes; rate = rate; pictures = pictures; bytes_fit = b; rate_fits = r; pictures_fit = p }

film-value : (counts : FilmCounts) (key : List ℕ) (number : ℕ) → setting_value key (codes "film") ≡ None →
    picked key (film_settings counts.bytes counts.rate counts.pictures) ≡ decimal number ∷ [] →
    are_plain (film_settings counts.bytes counts.rate counts.pictures) ≡ true →
    GivesOnce (film_line counts.bytes counts.rate counts.pictures) key number
film-value counts key number none given plain =
    ap (λ (line : List ℕ). values_of key (words_in line)) (film-line bytes rate pictures)
    ∙ line-values {key = key} {first =
    codes "film"} (record { end = _; words = _; ends = ended }) (film_settings bytes rate pictures)
    (film-words bytes rate pictures few short little) (record {
      word = is-word (codes "film") (none_is 32 (codes "film") refl)
          (none_is 10 (codes "film") refl);
      none = none;
    }) refl plain ∙ given
  where
    open counts use {bytes, rate, pictures, bytes_fit as few, rate_fits as short, pictures_fit as little}

pub film-told : (bytes rate pictures : ℕ) → bytes < 2 ^ 64 → rate < 2 ^ 64 → pictures < 2 ^ 64
    → LineShowsFilm bytes rate pictures (film_line bytes rate pictures)
unfolding film_settings
film-told bytes rate pictures few short little =
    let counts = film_counts few short little in
    record {
      bytes_told = film-value counts (codes "bytes") bytes refl refl refl;
      rate_told = film-value counts (codes "rate") rate refl refl refl;
      pictures_told = film-value counts (codes "pictures") pictures refl refl refl;
    }

unit_settings : PictureUnit → List Setting
unit_settings u =
    number_setting (codes "show") u.presentation ∷ number_setting (codes "from") u.from ∷ number_setting
    (codes "head") u.head_end
    ∷ number_setting (codes "to") u.to ∷ number_setting (codes "slices") u.slices ∷ []

unit-words : (u : PictureUnit) → IsShortUnit u → All (λ s. IsWord (setting_text s)) (unit_settings u)
unfolding unit_settings AreWords
unit-words u short =
    all-words (unit_settings u) (
      number-word (codes "show") u.presentation short.presentation (none_is 32 (codes "show") refl)
          (none_is 10 (codes "show") refl),
      (
        number-word (codes "from") u.from short.from (none_is 32 (codes "from") refl) (none_is 10 (codes "from") refl),
        (
          number-word (codes "head") u.head_end short.head_end (none_is 32 (codes "head") refl)
              (none_is 10 (codes "head") refl),
          (
            number-word (codes "to") u.to short.to (none_is 32 (codes "to") refl) (none_is 10 (codes "to") refl),
            (
              number-word (codes "slices") u.slices short.slices (none_is 32 (codes "slices") refl)
                  (none_is 10 (codes "slices") refl),
              tt,
            ),
          ),
        ),
      ),
    )

-- a unit's line with its number and kind in front
unit-line : (number : ℕ) (u : PictureUnit)
    → unit_line number u ≡ decimal number ++ (32 ∷ (kind_text u.kind ++ line_rest (unit_marks u) (unit_settings u)))
unfolding line_rest unit_settings
unit-line number u =
    let n = decimal number in
    let kind = kind_text u.kind in
    let show = decimal u.presentation in
    let from = decimal u.from in
    let head = decimal u.head_end in
    let to = decimal u.to in
    let slices = decimal u.slices in
    let end = unit_marks u in
    append_assoc (unit_name number u) (unit_places u) end
    ∙ append_assoc (n ++ codes " " ++ kind ++ codes " show=") (show) (unit_places u ++ end)
    ∙ append_assoc (n ++ codes " " ++ kind) (codes " show=") (show ++ ((unit_places u ++ end)))
    ∙ append_assoc (n ++ codes " ") (kind) (codes " show=" ++ (show ++ ((unit_places u ++ end))))
    ∙ append_assoc n (codes " ") (kind ++ (codes " show=" ++ (show ++ ((unit_places u ++ end)))))
    ∙ ap (λ (X : List ℕ). n ++ (codes " " ++ (kind ++ (codes " show=" ++ (show ++ X)))))
    (append_assoc (codes " from=" ++ from ++ codes " head=" ++ head ++ codes " to=" ++ to ++ codes " slices=") (slices)
    (end)
    ∙ append_assoc (codes " from=" ++ from ++ codes " head=" ++ head ++ codes " to=" ++ to) (codes " slices=")
    (slices ++ end)
    ∙ append_assoc (codes " from=" ++ from ++ codes " head=" ++ head ++ codes " to=") (to)
    (codes " slices=" ++ (slices ++ end))
    ∙ append_assoc (codes " from=" ++ from ++ codes " head=" ++ head) (codes " to=")
    (to ++ (codes " slices=" ++ (slices ++ end)))
    ∙ append_assoc (codes " from=" ++ from ++ codes " head=") (head)
    (codes " to=" ++ (to ++ (codes " slices=" ++ (slices ++ end))))
    ∙ append_assoc (codes " from=" ++ from) (codes " head=")
    (head ++ (codes " to=" ++ (to ++ (codes " slices=" ++ (slices ++ end)))))
    ∙ append_assoc (codes " from=") (from)
    (codes " head=" ++ (head ++ (codes " to=" ++ (to ++ (codes " slices=" ++ (slices ++ end)))))))

-- how the line ends: with the words of what stands in the unit's head
mark_words : Bool → Bool → List (List ℕ)
mark_words true true = codes "sequence" ∷ codes "group" ∷ [] ∷ []
mark_words true false = codes "sequence" ∷ [] ∷ []
mark_words false true = codes "group" ∷ [] ∷ []
mark_words false false = [] ∷ []

marks-ended : (sequence group : Bool) → IsLineEnd (marks sequence group) (mark_words sequence group)
unfolding mark_words
marks-ended true true = more-ended (codes "sequence group\n") (codes "sequence" ∷ codes "group" ∷ [] ∷ []) refl
marks-ended true false = more-ended (codes "sequence\n") (codes "sequence" ∷ [] ∷ []) refl
marks-ended false true = more-ended (codes "group\n") (codes "group" ∷ [] ∷ []) refl
marks-ended false false = ended

kind-word : (kind : Kind) → IsWord (kind_text kind)
kind-word I = is-word (codes "I") (none_is 32 (codes "I") refl) (none_is 10 (codes "I") refl)
kind-word P = is-word (codes "P") (none_is 32 (codes "P") refl) (none_is 10 (codes "P") refl)
kind-word B = is-word (codes "B") (none_is 32 (codes "B") refl) (none_is 10 (codes "B") refl)
kind-word D = is-word (codes "D") (none_is 32 (codes "D") refl) (none_is 10 (codes "D") refl)

kind-none : (key : List ℕ) (kind : Kind) → setting_value key (kind_text kind) ≡ None
kind-none key I = setting_none key (codes "I") (none_is 61 (codes "I") refl)
kind-none key P = setting_none key (codes "P") (none_is 61 (codes "P") refl)
kind-none key B = setting_none key (codes "B") (none_is 61 (codes "B") refl)
kind-none key D = setting_none key (codes "D") (none_is 61 (codes "D") refl)

-- all words of a unit's line
unit-line-words : (number : ℕ) (u : PictureUnit) → number < 2 ^ 64 → IsShortUnit u
    → words_in (unit_line number u) ≡ decimal number ∷ kind_text u.kind ∷
    (map setting_text (unit_settings u) ++ mark_words u.has_sequence u.starts_group)
unit-line-words number u few short =
    ap words_in (unit-line number u)
    ∙ slice_split_at gap (decimal number) 32 (kind_text u.kind ++ line_rest (unit_marks u) (unit_settings u))
    (is-word (decimal number) (number-plain number 32 few (λ low high. omega (arith, low)))
    (number-plain number 10 few (λ low high. omega (arith, low)))) refl
    ∙ ap (λ (l : List (List ℕ)). decimal number ∷ l)
    (line-words (kind_text u.kind) (unit_settings u) (record {
      end = unit_marks u;
      words = mark_words u.has_sequence u.starts_group;
      ends = marks-ended u.has_sequence u.starts_group;
    }) (kind-word u.kind) (unit-words u short))

no-values : (key : List ℕ) (words : List (List ℕ)) → All (HasNo 61) words → values_of key words ≡ []
no-values key [] none = refl
no-values key (word ∷ words) none =
    ap (λ (o : Option (List ℕ)). option_to_list o ++ values_of key words)
    (setting_none key word (All-head (HasNo 61) word words none))
    ∙ no-values key words (All-tail (HasNo 61) word words none)

marks-plain : (sequence group : Bool) → All (HasNo 61) (mark_words sequence group)
unfolding mark_words
marks-plain true true =
    All-cons (HasNo 61) (codes "sequence") (codes "group" ∷ [] ∷ []) (none_is 61 (codes "sequence") refl)
    (All-cons (HasNo 61) (codes "group") ([] ∷ []) (none_is 61 (codes "group") refl)
    (All-cons (HasNo 61) [] [] (none_is 61 [] refl) (All-nil (HasNo 61))))
marks-plain true false =
    All-cons (HasNo 61) (codes "sequence") ([] ∷ []) (none_is 61 (codes "sequence") refl)
    (All-cons (HasNo 61) [] [] (none_is 61 [] refl) (All-nil (HasNo 61)))
marks-plain false true =
    All-cons (HasNo 61) (codes "group") ([] ∷ []) (none_is 61 (codes "group") refl)
    (All-cons (HasNo 61) [] [] (none_is 61 [] refl) (All-nil (HasNo 61)))
marks-plain false false = All-cons (HasNo 61) [] [] (none_is 61 [] refl) (All-nil (HasNo 61))

-- a unit's settings, of which one has this key and value
record PickedOnce (u : PictureUnit) (key : List ℕ) (value : ℕ) : Type 0 where
  given : picked key (unit_settings u) ≡ decimal value ∷ []
  plain : are_plain (unit_settings u) ≡ true

unit-value : {u : PictureUnit} (number : ℕ) (key : List ℕ) (value : ℕ) → number < 2 ^ 64 → IsShortUnit u →
    PickedOnce u key value → GivesOnce (unit_line number u) key value
unit-value {u} number key value few short picked_once =
    let back = mark_words u.has_sequence u.starts_group in
    let rest = map setting_text (unit_settings u) in
    ap (values_of key) (unit-line-words number u few short)
    ∙ ap (λ (o : Option (List ℕ)). option_to_list o ++ values_of key (kind_text u.kind ∷ (rest ++ back)))
    (setting_none key (decimal number) (number-plain number 61 few (λ low high. omega (arith, high))))
    ∙ ap (λ (o : Option (List ℕ)). option_to_list o ++ values_of key (rest ++ back)) (kind-none key u.kind)
    ∙ values_of-append key rest back
    ∙ ap (λ (vs : List (List ℕ)). values_of key rest ++ vs)
    (no-values key (mark_words u.has_sequence u.starts_group) (marks-plain u.has_sequence u.starts_group))
    ∙ append-nil (values_of key rest) ∙ values_read key (unit_settings u) picked_once.plain ∙ picked_once.given

-- the words of the head stand there or don't: none of the other words is one of them
shown-at : (word : List ℕ) (number : ℕ) (u : PictureUnit) → bytes_eq word (decimal number) ≡ false
    → bytes_eq word (kind_text u.kind) ≡ false → list_any (bytes_eq word) (map setting_text (unit_settings u)) ≡ false
    → list_any (bytes_eq word)
    (decimal number ∷ kind_text u.kind ∷
    (map setting_text (unit_settings u) ++ mark_words u.has_sequence u.starts_group)) ≡ list_any (bytes_eq word)
    (mark_words u.has_sequence u.starts_group)
shown-at word number u one two three =
    ap (λ (b : Bool). b
    || (bytes_eq word (kind_text u.kind)
    || list_any (bytes_eq word) (map setting_text (unit_settings u) ++ mark_words u.has_sequence u.starts_group))) one
    ∙ ap (λ (b : Bool). b
    || list_any (bytes_eq word) (map setting_text (unit_settings u) ++ mark_words u.has_sequence u.starts_group)) two
    ∙ list_any-append (bytes_eq word) (map setting_text (unit_settings u)) (mark_words u.has_sequence u.starts_group)
    ∙ ap (λ (b : Bool). b || list_any (bytes_eq word) (mark_words u.has_sequence u.starts_group)) three

-- a word that begins with no digit is no number
no-number : (c : ℕ) (word : List ℕ) (n : ℕ) → n < 2 ^ 64 → (48 ≤ c → c ≤ 57 → ⊥)
    → bytes_eq (c ∷ word) (decimal n) ≡ false
no-number c word n small other = by (decimal n) (number-plain n c small other)
  where
    by : (text : List ℕ) → HasNo c text → bytes_eq (c ∷ word) text ≡ false
    by [] none = refl
    by (b ∷ text) none =
        let differ : (c == b) ≡ false = ne_eqb c b (λ e. All-head (λ x. x ≢ c) b text none (sym e)) in
        ap (λ (t : Bool). t && bytes_eq word text) differ

kind-not-sequence : (kind : Kind) → bytes_eq (codes "sequence") (kind_text kind) ≡ false
kind-not-sequence I = refl
kind-not-sequence P = refl
kind-not-sequence B = refl
kind-not-sequence D = refl

kind-not-group : (kind : Kind) → bytes_eq (codes "group") (kind_text kind) ≡ false
kind-not-group I = refl
kind-not-group P = refl
kind-not-group B = refl
kind-not-group D = refl

sequence-mark : (sequence group : Bool) → list_any (bytes_eq (codes "sequence")) (mark_words sequence group) ≡ sequence
unfolding mark_words
sequence-mark true true = refl
sequence-mark true false = refl
sequence-mark false true = refl
sequence-mark false false = refl

group-mark : (sequence group : Bool) → list_any (bytes_eq (codes "group")) (mark_words sequence group) ≡ group
unfolding mark_words
group-mark true true = refl
group-mark true false = refl
group-mark false true = refl
group-mark false false = refl

-- the words of a unit's line
abbrev unit_words : ℕ → PictureUnit → List (List ℕ)
unit_words number u =
    decimal number ∷ kind_text u.kind ∷ (map setting_text (unit_settings u) ++ mark_words u.has_sequence u.starts_group)

sequence-shown : (number : ℕ) (u : PictureUnit) → number < 2 ^ 64 →
    list_any (bytes_eq (codes "sequence")) (unit_words number u) ≡ u.has_sequence
unfolding unit_settings
sequence-shown number u few =
    shown-at (codes "sequence") number u
    (no-number 115 (codes "equence") number few (λ low high. omega (arith, high))) (kind-not-sequence u.kind) refl
    ∙ sequence-mark u.has_sequence u.starts_group

group-shown : (number : ℕ) (u : PictureUnit) → number < 2 ^ 64 →
    list_any (bytes_eq (codes "group")) (unit_words number u) ≡ u.starts_group
unfolding unit_settings
group-shown number u few =
    shown-at (codes "group") number u
    (no-number 103 (codes "roup") number few (λ low high. omega (arith, high))) (kind-not-group u.kind) refl
    ∙ group-mark u.has_sequence u.starts_group

-- what a unit's line says
pub unit-told : (number : ℕ) (u : PictureUnit) → number < 2 ^ 64 → IsShortUnit u
    → LineShowsUnit number u (unit_line number u)
unfolding unit_settings
unit-told number u few short =
    let words = unit-line-words number u few short in
    record {
      number_told = ap (λ (ws : List (List ℕ)). slice_index_or ws 0 []) words;
      kind_told = ap (λ (ws : List (List ℕ)). slice_index_or ws 1 []) words;
      show_told = unit-value number (codes "show") u.presentation few short (record { given = refl; plain = refl });
      from_told = unit-value number (codes "from") u.from few short (record { given = refl; plain = refl });
      head_told = unit-value number (codes "head") u.head_end few short (record { given = refl; plain = refl });
      to_told = unit-value number (codes "to") u.to few short (record { given = refl; plain = refl });
      slices_told = unit-value number (codes "slices") u.slices few short (record { given = refl; plain = refl });
      sequence_told = ap (list_any (bytes_eq (codes "sequence"))) words ∙ sequence-shown number u few;
      group_told = ap (list_any (bytes_eq (codes "group"))) words ∙ group-shown number u few;
    }
