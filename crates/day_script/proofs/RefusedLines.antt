-- A line that is spelled and may not stand there is refused, and so is one whose verb is unknown.
use Rattle.std.proofs.Common.{◌≡◌, ◌<◌, ◌-◌, ◌+◌, ◌&&◌, ◌||◌, ℕ, Bool, true, false, nat_lt, List, [], ◌∷◌, ◌++◌, codes}
use Rattle.std.proofs.Common.{decimal, length, map, take, get_or, Some, None, arith, refl, ap, ◌∙◌, inl, inr}
use Rattle.std.specs.Prelude.{◌⊎◌}
use Rattle.std.specs.List.{list_all}
use Rattle.std.specs.Option.{option_and_then}
use Rattle.std.specs.Str.{bytes_eq}
use Rattle.std.proofs.lemmas.Bool.{cases_Bool, false_from_ne_true, ltb-true}
use Rattle.std.proofs.lemmas.List.{get_or_at, length-append, length-map, take_at}
use Rattle.vod_base.specs.Names.{good_name}
use Rattle.vod_base.specs.declared.links.TheConstants.{LATEST_SLOT}
use Rattle.vod_base.specs.declared.limits.TheConstants.{MAX_BYTES, MAX_DELAY}
use Rattle.early_start.specs.declared.TheConstants.{MAX_WAIT}
use Rattle.day_script.specs.declared.scripts.Line.{Line}
use Rattle.day_script.specs.declared.scripts.Line.TheVariants.{Play, Pause, Resume, Look, Slot, Offer}
use Rattle.day_script.specs.TextLines.{lines_of_script}
use Rattle.day_script.specs.ScriptReading.{IsBadLine, Name, Reading, line_read, lines_read, nothing_read, with_message}
use Rattle.day_script.specs.ScriptReading.{with_words}
use Rattle.day_script.specs.MessageWords.{asked_in, pair_in, message_in}
use Rattle.day_script.specs.Scripts.{latest_slot}
use Rattle.day_script.specs.ScriptText.{AreWritten, IsAskedInWords, IsAsking, IsInWords, MayStand, is_verb, is_word}
use Rattle.day_script.specs.ScriptText.{kind_text, line_text, name_at, names_used, script_text, words_text, words_of}
use Rattle.day_script.proofs.LineTextLemmas.{spaced-line}
use Rattle.day_script.proofs.WordReadBack.{kind-back, read-or, words-plain}
use Rattle.day_script.proofs.ScriptReadBack.{ReadSoFar, asked-of, line-words, read_so_far, text-read, texts-lines}
use Rattle.day_script.proofs.ScriptReadBack.{texts-read}

-- ---- a line that may not stand there
abbrev IsAskedOr : Name → ℕ → ℕ → ℕ → Type 0
IsAskedOr name client buffer delay =
    ((good : good_name name.name ≡ true) → IsAsking name client buffer delay)
    × (asked_in (decimal client) (kind_text name.kind) (decimal buffer) (decimal delay)
    ≡ Some (asked-of name client buffer delay))

asked-or : (name : Name) (client buffer delay : ℕ) → IsAskedInWords name client buffer delay
    → IsAskedOr name client buffer delay
    ⊎ ((IsAsking name client buffer delay → ⊥)
    × (asked_in (decimal client) (kind_text name.kind) (decimal buffer) (decimal delay) ≡ None))
asked-or name client buffer delay own = elim (read-or 0 255 client own.client_small) [
  | inr c ↦ inr (λ may. c.0 (omega arith) may.client_fits, rw c.1 refl)
  | inl c ↦ elim (read-or 1 MAX_BYTES buffer own.buffer_small) [
    | inr b ↦ inr (λ may. b.0 may.some_buffer may.buffer_fits, rw c.2 (rw (kind-back name.kind) (rw b.1 refl)))
    | inl b ↦ elim (read-or 0 MAX_DELAY delay own.delay_small) [
      | inr d ↦ inr (λ may. d.0 (omega arith) may.delay_fits, rw c.2 (rw (kind-back name.kind) (rw b.2 (rw d.1 refl))))
      | inl d ↦ inl (
        λ good. record { client_fits = c.1; some_buffer = b.0; buffer_fits = b.1; delay_fits = d.1; good = good },
        rw c.2 (rw (kind-back name.kind) (rw b.2 (rw d.2 refl))),
      )
    ]
  ]
]

pair-bad : (r : Reading) (names : List Name) (line : Line) → IsInWords names line
    → (MayStand r.slot names line → ⊥) → with_words r (words_of names line) ≡ None
pair-bad r names (Play client source buffer delay) own not =
    elim (asked-or (name_at names source) client buffer delay own) [
      | inr bad ↦ rw bad.1 refl
      | inl asked ↦ elim (cases_Bool (good_name (name_at names source).name)) [
        | inl good ↦ absurd (not (asked.0 good))
        | inr ill ↦ rw asked.1 (rw ill refl)
      ]
    ]
pair-bad r names (Pause client) own not = elim (read-or 0 255 client own) [
  | inl fits ↦ absurd (not fits.1)
  | inr out ↦ rw out.1 refl
]
pair-bad r names (Resume client) own not = elim (read-or 0 255 client own) [
  | inl fits ↦ absurd (not fits.1)
  | inr out ↦ rw out.1 refl
]
pair-bad r names (Look slot) own not = elim (read-or 0 LATEST_SLOT slot own) [
  | inl fits ↦ absurd (not fits.1)
  | inr out ↦ rw out.1 refl
]
pair-bad r names (Slot slot) own not = elim (read-or 1 LATEST_SLOT slot own) [
  | inl fits ↦
      rw fits.2 (rw (false_from_ne_true (nat_lt r.slot slot) (λ later. not (ltb-true r.slot slot later, fits.1))) refl)
  | inr out ↦ rw out.1 refl
]
pair-bad r names (Offer client source buffer delay wait) own not =
    elim (asked-or (name_at names source) client buffer delay own.0) [
      | inr bad ↦ rw bad.1 refl
      | inl asked ↦ elim (read-or 0 MAX_WAIT wait own.1) [
        | inr out ↦ rw asked.1 (rw out.1 refl)
        | inl fits ↦ elim (cases_Bool (good_name (name_at names source).name)) [
          | inl good ↦ absurd (not (asked.0 good, fits.1))
          | inr ill ↦ rw asked.1 (rw fits.2 (rw ill refl))
        ]
      ]
    ]

pub line-bad : (r : Reading) (names : List Name) (line : Line) → IsInWords names line
    → (MayStand r.slot names line → ⊥) → line_read r (line_text names line) ≡ None
line-bad r names line own not = line-words r names line own ∙ pair-bad r names line own not

none-of : (a b c d : Bool) → (a || b || c || d) ≡ false → (a ≡ false) × (b ≡ false) × (c ≡ false) × (d ≡ false)
none-of true b c d h = absurd (let no-way : ⊥ = cc h in no-way)
none-of false true c d h = absurd (let no-way : ⊥ = cc h in no-way)
none-of false false true d h = absurd (let no-way : ⊥ = cc h in no-way)
none-of false false false true h = absurd (let no-way : ⊥ = cc h in no-way)
none-of false false false false h = (refl, refl, refl, refl)

first-of : (a b c : Bool) → ((true && a) || (false && b) || (false && c)) ≡ false → a ≡ false
first-of true b c h = absurd (let no-way : ⊥ = cc h in no-way)
first-of false b c h = refl

second-of : (a b c : Bool) → ((false && a) || (true && b) || (false && c)) ≡ false → b ≡ false
second-of a true c h = absurd (let no-way : ⊥ = cc h in no-way)
second-of a false c h = refl

third-of : (a b c : Bool) → ((false && a) || (false && b) || (true && c)) ≡ false → c ≡ false
third-of a b true h = absurd (let no-way : ⊥ = cc h in no-way)
third-of a b false h = refl

pair-unknown : (verb word : List ℕ) → is_verb 2 verb ≡ false → pair_in verb word ≡ None
pair-unknown verb word unknown =
    let others =
    none-of (bytes_eq verb (codes "pause")) (bytes_eq verb (codes "resume")) (bytes_eq verb (codes "look"))
    (bytes_eq verb (codes "slot"))
    (first-of (bytes_eq verb (codes "pause") || bytes_eq verb (codes "resume") || bytes_eq verb (codes "look")
    || bytes_eq verb (codes "slot"))
    (bytes_eq verb (codes "play")) (bytes_eq verb (codes "offer")) unknown) in
    rw others.0 (rw others.1 (rw others.2 (rw others.3 refl)))

abbrev two-words : List ℕ → Bool
two-words verb =
    bytes_eq verb (codes "pause") || bytes_eq verb (codes "resume") || bytes_eq verb (codes "look")
    || bytes_eq verb (codes "slot")

-- words of which the first is no verb of lines of so many words say nothing
pub verb-unknown : (verb : List ℕ) (words : List (List ℕ)) → is_verb (length (verb ∷ words)) verb ≡ false
    → message_in (verb ∷ words) ≡ None
verb-unknown verb [] unknown = refl
verb-unknown verb (b ∷ []) unknown = pair-unknown verb b unknown
verb-unknown verb (b ∷ c ∷ []) unknown = refl
verb-unknown verb (b ∷ c ∷ d ∷ []) unknown = refl
verb-unknown verb (b ∷ c ∷ d ∷ e ∷ []) unknown = refl
verb-unknown verb (b ∷ c ∷ d ∷ e ∷ f ∷ []) unknown =
    rw (second-of (two-words verb) (bytes_eq verb (codes "play")) (bytes_eq verb (codes "offer")) unknown) refl
verb-unknown verb (b ∷ c ∷ d ∷ e ∷ f ∷ g ∷ []) unknown =
    rw (third-of (two-words verb) (bytes_eq verb (codes "play")) (bytes_eq verb (codes "offer")) unknown) refl
verb-unknown verb (b ∷ c ∷ d ∷ e ∷ f ∷ g ∷ h ∷ words) unknown = refl

-- ---- the first bad line of a text
pub first-bad : {names : List Name} {lines : List Line} {line : List ℕ} (rest : List ℕ) → AreWritten names lines
    → lines_of_script (line ++ 10 ∷ rest) ≡ line ∷ lines_of_script rest
    → line_read (read_so_far names lines (names_used lines) (latest_slot lines)) line ≡ None
    → IsBadLine (script_text names lines ++ (line ++ 10 ∷ rest)) (length lines + 1)
first-bad {names} {lines} {line} rest written cut none =
    let text = script_text names lines ++ (line ++ 10 ∷ rest) in
    let texts = map (line_text names) lines in
    let all : lines_of_script text ≡ texts ++ line ∷ lines_of_script rest =
    texts-lines names lines (line ++ 10 ∷ rest) 0 0 written.standing ∙ ap (λ ls. texts ++ ls) cut in
    let count : length texts ≡ length lines = length-map lines (line_text names) in
    let e : length lines + 1 - 1 ≡ length lines = omega arith in
    let nothing : ReadSoFar =
    record { names = names; lines = []; k = 0; slot = 0; apart = written.apart; most = omega arith } in
    let read = texts-read nothing lines written.standing in
    record {
      reading = read_so_far names lines (names_used lines) (latest_slot lines);
      some = omega arith;
      few = omega (arith, written.few);
      inside = omega (arith, ap length all, length-append texts (line ∷ lines_of_script rest), count);
      before = ap (λ n. lines_read nothing_read (take n (lines_of_script text))) e
          ∙ ap (λ ls. lines_read nothing_read (take (length lines) ls)) all
          ∙ ap (lines_read nothing_read) (take_at texts (line ∷ lines_of_script rest) (length lines) count) ∙ read;
      here = inr (ap
          (λ n. line_read (read_so_far names lines (names_used lines) (latest_slot lines))
          (get_or (lines_of_script text) n [])) e
          ∙ ap (λ ls. line_read (read_so_far names lines (names_used lines) (latest_slot lines))
          (get_or ls (length lines) [])) all
          ∙ ap (line_read (read_so_far names lines (names_used lines) (latest_slot lines)))
          (get_or_at texts line (lines_of_script rest) [] (length lines) count) ∙ none);
    }

-- a script that can be written
pub record WrittenScript : Type 0 where
  pub names : List Name
  pub lines : List Line
  pub written : AreWritten names lines

pub range-bad : (script : WrittenScript) (line : Line) (rest : List ℕ) → IsInWords script.names line
    → (MayStand (latest_slot script.lines) script.names line → ⊥)
    → IsBadLine (script_text script.names script.lines ++ (line_text script.names line ++ 10 ∷ rest))
    (length script.lines + 1)
range-bad script line rest own not =
    first-bad rest written (spaced-line (words_of names line) rest (words-plain names line own))
    (line-bad (read_so_far names lines (names_used lines) (latest_slot lines)) names line own not)
  where
    open script use {names, lines, written}

-- words whose first is no verb
pub record UnknownVerb : Type 0 where
  pub verb : List ℕ
  pub words : List (List ℕ)
  pub plain : list_all is_word (verb ∷ words) ≡ true
  pub some : 0 < length (words_text (verb ∷ words))
  pub unknown : is_verb (length (verb ∷ words)) verb ≡ false

pub verb-bad : (script : WrittenScript) (spoken : UnknownVerb) (rest : List ℕ)
    → IsBadLine (script_text script.names script.lines ++ (words_text (spoken.verb ∷ spoken.words) ++ 10 ∷ rest))
    (length script.lines + 1)
verb-bad script spoken rest =
    let r = read_so_far script.names script.lines (names_used script.lines) (latest_slot script.lines) in
    first-bad rest script.written (spaced-line (verb ∷ words) rest plain)
    (text-read r verb words some plain
    ∙ ap (option_and_then (with_message r (verb ∷ words))) (verb-unknown verb words unknown))
  where
    open spoken use {verb, words, plain, some, unknown}
