-- Lines that are spelled are read back, and the script that they make.
use Rattle.std.proofs.Common.{◌≡◌, ◌≢◌, ◌<◌, ◌≤◌, ◌+◌, ◌==◌, ℕ, max, true, nat_lt, List, [], ◌∷◌, ◌++◌, codes, decimal}
use Rattle.std.proofs.Common.{length, map, take, get_or, Some, None, arith, refl, sym, ap, ◌∙◌, inl, inr}
use Rattle.std.specs.List.{fold, list_all, slice_split}
use Rattle.std.specs.Option.{option_and_then}
use Rattle.std.specs.Str.{bytes_eq}
use Rattle.std.proofs.lemmas.Bool.{and_from, and_parts, cases_lt, cond-false, cond-true, false_from_ne_true, lt-ltb}
use Rattle.std.proofs.lemmas.Bool.{ltb-true, ne_eqb}
use Rattle.std.proofs.lemmas.List.{append_assoc, append-nil, get_or-take, get_or_past, length-map, length-take-le}
use Rattle.std.proofs.lemmas.List.{take_all, take_more}
use Rattle.std.proofs.lemmas.List.Sums.{position_or_len_is}
use Rattle.std.proofs.lemmas.Slice.Eq.{bytes_eq-Decides}
use Rattle.vod_base.specs.Names.{good_name}
use Rattle.vod_base.specs.declared.links.TheConstants.{LATEST_SLOT}
use Rattle.vod_base.specs.declared.limits.TheConstants.{MAX_BYTES, MAX_DELAY}
use Rattle.early_start.specs.declared.TheConstants.{MAX_WAIT}
use Rattle.day_script.specs.declared.scripts.Line.{Line}
use Rattle.day_script.specs.declared.scripts.Line.TheVariants.{Play, Pause, Resume, Look, Slot, Offer}
use Rattle.day_script.specs.declared.scripts.SourceKind.{SourceKind}
use Rattle.day_script.specs.declared.scripts.SourceKind.TheVariants.{Film, Trace}
use Rattle.day_script.specs.declared.messages.PlayParams.{PlayParams}
use Rattle.day_script.specs.TextLines.{is_space, lines_of_script}
use Rattle.day_script.specs.declared.scripts.Script.{Script}
use Rattle.day_script.specs.ScriptReading.{IsScript, Name, Reading, is_kind, is_name, line_read, lines_read, names_of}
use Rattle.day_script.specs.ScriptReading.{nothing_read, name_as, source_in, with_name, with_named, with_words}
use Rattle.day_script.specs.MessageWords.{asked_in}
use Rattle.day_script.specs.Scripts.{latest_slot, slot_after}
use Rattle.day_script.specs.ScriptText.{AreStanding, AreWritten, IsAsking, IsInWords, IsNextName, MayStand, asked_words}
use Rattle.day_script.specs.ScriptText.{is_word, kind_text, line_text, name_at, names_after, names_used, script_text}
use Rattle.day_script.specs.ScriptText.{words_text, words_of}
use Rattle.day_script.proofs.LineTextLemmas.{spaced-line, spaced-split}
use Rattle.day_script.proofs.WordReadBack.{in-words, kind-back, number-back, words-plain}

-- ---- one line
-- the words of a line are read
pub text-read : (r : Reading) (word : List ℕ) (words : List (List ℕ)) → 0 < length (words_text (word ∷ words))
    → list_all is_word (word ∷ words) ≡ true
    → line_read r (words_text (word ∷ words)) ≡ with_words r (word ∷ words)
text-read r word words some plain =
    cond-false (length (words_text (word ∷ words)) == 0) (Some r)
    (with_words r (slice_split is_space (words_text (word ∷ words))))
    (ne_eqb (length (words_text (word ∷ words))) 0 (λ none. absurd (omega (arith, some, none))))
    ∙ ap (with_words r) (spaced-split word words plain)

abbrev pub asked-of : Name → ℕ → ℕ → ℕ → PlayParams
asked-of name client buffer delay = record { client = client; kind = name.kind; buffer = buffer; delay = delay }

asked-back : (name : Name) (client buffer delay : ℕ) → IsAsking name client buffer delay
    → asked_in (decimal client) (kind_text name.kind) (decimal buffer) (decimal delay)
    ≡ Some (asked-of name client buffer delay)
asked-back name client buffer delay may =
    let c = number-back 0 255 client (omega (arith, may.client_fits)) (omega arith) may.client_fits in
    let b = number-back 1 MAX_BYTES buffer (omega (arith, may.buffer_fits)) may.some_buffer may.buffer_fits in
    let d = number-back 0 MAX_DELAY delay (omega (arith, may.delay_fits)) (omega arith) may.delay_fits in
    rw c (rw (kind-back name.kind) (rw b (rw d refl)))

-- a name and its place
name-is : (one other : Name) → is_name one other ≡ true → one ≡ other
name-is one other same =
    let parts = and_parts (is_kind one.kind other.kind) (bytes_eq one.name other.name) same in
    let kind = kind-same one.kind other.kind parts.0 in
    let name = (bytes_eq-Decides one.name other.name).0 parts.1 in
    ap (λ k. name_as k one.name) kind ∙ ap (λ n. name_as other.kind n) name
  where
    kind-same : (a b : SourceKind) → is_kind a b ≡ true → a ≡ b
    kind-same Film Film e = refl
    kind-same Film Trace e = cc e
    kind-same Trace Film e = cc e
    kind-same Trace Trace e = refl

name-self : (name : Name) → is_name name name ≡ true
name-self name =
    and_from (is_kind name.kind name.kind) (bytes_eq name.name name.name) (kind-self name.kind)
    ((bytes_eq-Decides name.name name.name).1 refl)
  where
    kind-self : (a : SourceKind) → is_kind a a ≡ true
    kind-self Film = refl
    kind-self Trace = refl

-- the names differ
abbrev AreApart : List Name → Type 0
AreApart names = (i j : ℕ) → i < j → j < length names → name_at names i ≢ name_at names j

no-name : (names : List Name) (source : ℕ) → good_name (name_at names source).name ≡ true → source < length names
no-name names source good = elim (cases_lt source (length names)) [
  | inl inside ↦ inside
  | inr past ↦
      let none : good_name [] ≡ true =
      ap (λ (n : Name). good_name n.name) (sym (get_or_past names source (name_as Trace []) past)) ∙ good in
      absurd (let no : ⊥ = cc none in no)
]

source-at : {source : ℕ} (names : List Name) (k : ℕ) → AreApart names → source ≤ k → k ≤ length names
    → source < length names
    → source_in (take k names) (name_at names source) ≡ source
source-at {source} names k apart next most inside =
    let none = name_as Trace [] in
    let name = name_at names source in
    let count : length (take k names) ≡ k = length-take-le k names most in
    position_or_len_is (is_name name) (take k names) source none (omega (arith, count, next))
    (λ j before.
    let at : get_or (take k names) j none ≡ name_at names j =
    get_or-take k names j none (omega (arith, before, next)) in
    ap (is_name name) at
    ∙ false_from_ne_true (is_name name (name_at names j))
    (λ same. absurd (apart j source before inside (sym (name-is name (name_at names j) same)))))
    (λ within. ap (is_name name) (get_or-take k names source none (omega (arith, within, count))) ∙ name-self name)

names-at : {source : ℕ} (names : List Name) (k : ℕ) → source ≤ k → k ≤ length names → source < length names
    → source_in (take k names) (name_at names source) ≡ source
    → with_name (take k names) (name_at names source) ≡ take (max k (source + 1)) names
names-at {source} names k next most inside at =
    let name = name_at names source in
    let count : length (take k names) ≡ k = length-take-le k names most in
    elim (cases_lt source k) [
      | inl known ↦
          let same : max k (source + 1) ≡ k = omega (arith, known) in
          cond-true (nat_lt (source_in (take k names) name) (length (take k names))) (take k names)
          (take k names ++ name ∷ [])
          (lt-ltb (source_in (take k names) name) (length (take k names)) (omega (arith, at, count, known)))
          ∙ ap (λ n. take n names) (sym same)
      | inr new ↦
          let here : source ≡ k = omega (arith, next, new) in
          let more : k + 1 ≡ max k (source + 1) = omega (arith, here) in
          let within : k < length names = omega (arith, here, inside) in
          cond-false (nat_lt (source_in (take k names) name) (length (take k names))) (take k names)
          (take k names ++ name ∷ [])
          (false_from_ne_true (nat_lt (source_in (take k names) name) (length (take k names)))
          (λ less. absurd
          (omega (arith, ltb-true (source_in (take k names) name) (length (take k names)) less, at, count, here))))
          ∙ ap (λ n. take k names ++ name_at names n ∷ []) here
          ∙ sym (take_more names k (name_as Trace []) within) ∙ ap (λ n. take n names) more
    ]

-- what was read when so many names were named
abbrev pub read_so_far : List Name → List Line → ℕ → ℕ → Reading
read_so_far names lines k slot = record { lines = lines; names = take k names; slot = slot }

-- lines that were read up to a slot, with so many of the names, which are apart
pub record ReadSoFar : Type 0 where
  pub names : List Name
  pub lines : List Line
  pub k : ℕ
  pub slot : ℕ
  pub apart : AreApart names
  pub most : k ≤ length names

-- what was read by then
abbrev reading_of : ReadSoFar → Reading
reading_of read = read_so_far read.names read.lines read.k read.slot

named-read : (read : ReadSoFar) (source : ℕ) (line : ℕ → Line) → source ≤ read.k
    → good_name (name_at read.names source).name ≡ true
    → with_named (reading_of read) (name_at read.names source) line
    ≡ Some (read_so_far read.names (read.lines ++ line source ∷ []) (max read.k (source + 1)) read.slot)
named-read read source line next good =
    let name = name_at names source in
    let inside = no-name names source good in
    let at = source-at names k apart next most inside in
    cond-true (good_name name.name) _ None good
    ∙ ap (λ n. Some (record { lines = lines ++ line n ∷ []; names = with_name (take k names) name; slot = slot })) at
    ∙ ap (λ ns. Some (record { lines = lines ++ line source ∷ []; names = ns; slot = slot }))
    (names-at names k next most inside at)
  where
    open read use {names, lines, k, slot, apart, most}

-- a verb's line has a byte
line-some : (names : List Name) (line : Line) → 0 < length (line_text names line)
line-some names (Play client source buffer delay) = omega arith
line-some names (Pause client) = omega arith
line-some names (Resume client) = omega arith
line-some names (Look slot) = omega arith
line-some names (Slot slot) = omega arith
line-some names (Offer client source buffer delay wait) = omega arith

pub line-words : (r : Reading) (names : List Name) (line : Line) → IsInWords names line
    → line_read r (line_text names line) ≡ with_words r (words_of names line)
line-words r names (Play client source buffer delay) own =
    text-read r (codes "play") (asked_words (name_at names source) client buffer delay [])
    (line-some names (Play client source buffer delay)) (words-plain names (Play client source buffer delay) own)
line-words r names (Pause client) own =
    text-read r (codes "pause") (decimal client ∷ []) (line-some names (Pause client))
    (words-plain names (Pause client) own)
line-words r names (Resume client) own =
    text-read r (codes "resume") (decimal client ∷ []) (line-some names (Resume client))
    (words-plain names (Resume client) own)
line-words r names (Look slot) own =
    text-read r (codes "look") (decimal slot ∷ []) (line-some names (Look slot)) (words-plain names (Look slot) own)
line-words r names (Slot slot) own =
    text-read r (codes "slot") (decimal slot ∷ []) (line-some names (Slot slot)) (words-plain names (Slot slot) own)
line-words r names (Offer client source buffer delay wait) own =
    text-read r (codes "offer") (asked_words (name_at names source) client buffer delay (decimal wait ∷ []))
    (line-some names (Offer client source buffer delay wait))
    (words-plain names (Offer client source buffer delay wait) own)

line-back : (read : ReadSoFar) (line : Line) → IsNextName read.k line → MayStand read.slot read.names line
    → with_words (reading_of read) (words_of read.names line)
    ≡ Some (read_so_far read.names (read.lines ++ line ∷ []) (names_after read.k line) (slot_after read.slot line))
line-back read (Play client source buffer delay) next may =
    let name = name_at read.names source in
    rw (asked-back name client buffer delay may)
    (named-read read source (λ s. Play client s buffer delay) next may.good)
line-back read (Pause client) next may = rw (number-back 0 255 client (omega (arith, may)) (omega arith) may) refl
line-back read (Resume client) next may = rw (number-back 0 255 client (omega (arith, may)) (omega arith) may) refl
line-back read (Look slot) next may = rw (number-back 0 LATEST_SLOT slot (omega (arith, may)) (omega arith) may) refl
line-back read (Slot slot) next may =
    rw (number-back 1 LATEST_SLOT slot (omega (arith, may.1)) (omega (arith, may.0)) may.1)
    (rw (lt-ltb read.slot slot may.0) refl)
line-back read (Offer client source buffer delay wait) next may =
    let name = name_at read.names source in
    rw (asked-back name client buffer delay may.0)
    (rw (number-back 0 MAX_WAIT wait (omega (arith, may.1)) (omega arith) may.1)
    (named-read read source (λ s. Offer client s buffer delay wait) next may.0.good))

-- ---- lines
count-after : (names : List Name) (k heard : ℕ) (line : Line) → MayStand heard names line → k ≤ length names
    → names_after k line ≤ length names
count-after names k heard (Play client source buffer delay) may most =
    omega (arith, most, no-name names source may.good)
count-after names k heard (Pause client) may most = most
count-after names k heard (Resume client) may most = most
count-after names k heard (Look slot) may most = most
count-after names k heard (Slot slot) may most = most
count-after names k heard (Offer client source buffer delay wait) may most =
    omega (arith, most, no-name names source may.0.good)

pub texts-read : (read : ReadSoFar) (lines : List Line) → AreStanding read.names read.k read.slot lines
    → lines_read (reading_of read) (map (line_text read.names) lines)
    ≡ Some (read_so_far read.names (read.lines ++ lines) (fold names_after read.k lines)
    (fold slot_after read.slot lines))
texts-read read [] standing = ap (λ ls. Some (read_so_far read.names ls read.k read.slot)) (sym (append-nil read.lines))
texts-read read (line ∷ rest) standing =
    let here = line-words (reading_of read) names line (in-words slot names line standing.1)
    ∙ line-back read line standing.0 standing.1 in
    let after : ReadSoFar = record {
      names = names;
      lines = lines ++ line ∷ [];
      k = names_after k line;
      slot = slot_after slot line;
      apart = apart;
      most = count-after names k slot line standing.1 most;
    } in
    ap (option_and_then (λ next. lines_read next (map (line_text names) rest))) here
    ∙ texts-read after rest standing.2
    ∙ ap (λ ls. Some (read_so_far names ls (fold names_after (names_after k line) rest)
    (fold slot_after (slot_after slot line) rest)))
    (append_assoc lines (line ∷ []) rest)
  where
    open read use {names, lines, k, slot, apart, most}

-- the lines of a script's text, and of what stands after it
pub texts-lines : (names : List Name) (lines : List Line) (rest : List ℕ) (k heard : ℕ)
    → AreStanding names k heard lines
    → lines_of_script (script_text names lines ++ rest) ≡ map (line_text names) lines ++ lines_of_script rest
texts-lines names [] rest k heard standing = refl
texts-lines names (line ∷ lines) rest k heard standing =
    ap lines_of_script (append_assoc (line_text names line) (10 ∷ script_text names lines) rest)
    ∙ spaced-line (words_of names line) (script_text names lines ++ rest)
    (words-plain names line (in-words heard names line standing.1))
    ∙ ap (λ ls. line_text names line ∷ ls)
    (texts-lines names lines rest (names_after k line) (slot_after heard line) standing.2)

pub script-back : (script : Script) → AreWritten (names_of script.named.items) script.lines.items
    → names_used script.lines.items ≡ length (names_of script.named.items)
    → IsScript (script_text (names_of script.named.items) script.lines.items) script
script-back script written used =
    let names = names_of script.named.items in
    let lines = script.lines.items in
    let none : lines_of_script [] ≡ [] = refl in
    let all : lines_of_script (script_text names lines) ≡ map (line_text names) lines =
    ap lines_of_script (sym (append-nil (script_text names lines)))
    ∙ texts-lines names lines [] 0 0 written.standing ∙ append-nil (map (line_text names) lines) in
    let nothing : ReadSoFar =
    record { names = names; lines = []; k = 0; slot = 0; apart = written.apart; most = omega arith } in
    let read = texts-read nothing lines written.standing in
    record {
      few = omega (arith, ap length all, length-map lines (line_text names), written.few);
      slot = latest_slot lines;
      read = ap (lines_read nothing_read) all ∙ read
          ∙ ap (λ n. Some (read_so_far names lines n (latest_slot lines))) used
          ∙ ap (λ ns. Some (record { lines = lines; names = ns; slot = latest_slot lines }))
          (take_all (length names) names (omega arith));
    }
