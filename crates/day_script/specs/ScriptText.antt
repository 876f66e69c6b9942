-- How the lines of a script are written.
use Rattle.std.specs.Prelude.{ℕ, ◌≡◌, ◌≢◌, ◌+◌, ◌<◌, ◌≤◌, ◌^◌, ◌==◌, ◌&&◌, ◌||◌, max, nat_le, Bool}
use Rattle.std.specs.Prelude.{true, List, [], ◌∷◌, ◌++◌, codes, decimal, length, slice_index_or}
use Rattle.std.specs.List.{fold, list_all}
use Rattle.std.specs.Str.{bytes_eq}
use Rattle.vod_base.specs.declared.links.TheConstants.{LATEST_SLOT}
use Rattle.vod_base.specs.declared.limits.TheConstants.{MAX_BYTES, MAX_DELAY}
use Rattle.early_start.specs.declared.TheConstants.{MAX_WAIT}
use Rattle.vod_base.specs.Names.{good_name}
use Rattle.day_script.specs.declared.scripts.Line.{Line}
use Rattle.day_script.specs.declared.scripts.Line.TheVariants.{Play, Pause, Resume, Look, Slot}
use Rattle.day_script.specs.declared.scripts.Line.TheVariants.{Offer}
use Rattle.day_script.specs.declared.scripts.SourceKind.{SourceKind}
use Rattle.day_script.specs.declared.scripts.SourceKind.TheVariants.{Film, Trace}
use Rattle.day_script.specs.ScriptReading.{Name, name_as}
use Rattle.day_script.specs.Scripts.{slot_after}

-- the words for a client, a film or trace by its name, a buffer and a start delay
abbrev pub kind_text : SourceKind → List ℕ
kind_text Film = codes "film"
kind_text Trace = codes "trace"

abbrev pub asked_words : Name → ℕ → ℕ → ℕ → List (List ℕ) → List (List ℕ)
asked_words name client buffer delay words =
    decimal client ∷ kind_text name.kind ∷ name.name ∷ decimal buffer ∷ decimal delay ∷ words

-- the name at a place
abbrev pub name_at : List Name → ℕ → Name
name_at names source = slice_index_or names source (name_as Trace [])

-- the words of a line, by the names of films and traces
abbrev pub words_of : List Name → Line → List (List ℕ)
words_of names (Play client source buffer delay) =
    codes "play" ∷ asked_words (name_at names source) client buffer delay []
words_of names (Pause client) = codes "pause" ∷ decimal client ∷ []
words_of names (Resume client) = codes "resume" ∷ decimal client ∷ []
words_of names (Look slot) = codes "look" ∷ decimal slot ∷ []
words_of names (Slot slot) = codes "slot" ∷ decimal slot ∷ []
words_of names (Offer client source buffer delay wait) =
    codes "offer" ∷ asked_words (name_at names source) client buffer delay (decimal wait ∷ [])

-- words with a space between two
abbrev pub words_text : List (List ℕ) → List ℕ
words_text [] = []
words_text (word ∷ []) = word
words_text (word ∷ next ∷ words) = word ++ 32 ∷ words_text (next ∷ words)

abbrev pub line_text : List Name → Line → List ℕ
line_text names line = words_text (words_of names line)

-- the text of lines, each ended by LF
abbrev pub script_text : List Name → List Line → List ℕ
script_text names [] = []
script_text names (line ∷ lines) = line_text names line ++ 10 ∷ script_text names lines

-- a word has no space, no line's end and no other byte below them
abbrev pub is_word : List ℕ → Bool
is_word word = list_all (nat_le 33) word

-- how many names lines have, where each new name stands after those of the lines before
abbrev pub names_after : ℕ → Line → ℕ
names_after count (Play client source buffer delay) = max count (source + 1)
names_after count (Pause client) = count
names_after count (Resume client) = count
names_after count (Look slot) = count
names_after count (Slot slot) = count
names_after count (Offer client source buffer delay wait) = max count (source + 1)

abbrev pub names_used : List Line → ℕ
names_used lines = fold names_after 0 lines

-- a line names a film or trace of those before, or the next one
abbrev pub IsNextName : ℕ → Line → Type 0
IsNextName count (Play client source buffer delay) = source ≤ count
IsNextName count (Pause client) = Unit {0}
IsNextName count (Resume client) = Unit {0}
IsNextName count (Look slot) = Unit {0}
IsNextName count (Slot slot) = Unit {0}
IsNextName count (Offer client source buffer delay wait) = source ≤ count

-- a line's numbers are in their ranges, its name is one that a file may have, and its slot is later
-- than the one before
pub record IsAsking (name : Name) (client buffer delay : ℕ) : Type 0 where
  pub client_fits : client ≤ 255
  pub some_buffer : 1 ≤ buffer
  pub buffer_fits : buffer ≤ MAX_BYTES
  pub delay_fits : delay ≤ MAX_DELAY
  pub good : good_name name.name ≡ true

abbrev pub MayStand : ℕ → List Name → Line → Type 0
MayStand heard names (Play client source buffer delay) =
    IsAsking (name_at names source) client buffer delay
MayStand heard names (Pause client) = client ≤ 255
MayStand heard names (Resume client) = client ≤ 255
MayStand heard names (Look slot) = slot ≤ LATEST_SLOT
MayStand heard names (Slot slot) = (heard < slot) × (slot ≤ LATEST_SLOT)
MayStand heard names (Offer client source buffer delay wait) =
    IsAsking (name_at names source) client buffer delay × (wait ≤ MAX_WAIT)

-- lines may stand one after the other, where so many names stand before them and a slot was
-- received last; each new name is the next one
abbrev pub AreStanding : List Name → ℕ → ℕ → List Line → Type 0
AreStanding names count heard [] = Unit {0}
AreStanding names count heard (line ∷ lines) =
    IsNextName count line × MayStand heard names line
    × AreStanding names (names_after count line) (slot_after heard line) lines

-- Lines that a script may have, with the names of their films and traces, each once, in the order
-- of the lines that name them first.
pub record AreWritten (names : List Name) (lines : List Line) : Type 0 where
  pub apart : (i j : ℕ) → i < j → j < length names → name_at names i ≢ name_at names j
  pub standing : AreStanding names 0 0 lines
  pub few : length lines ≤ 1000000

-- the numbers of a line are such that a word can write, and its name is one word
pub record IsAskedInWords (name : Name) (client buffer delay : ℕ) : Type 0 where
  pub client_small : client < 2 ^ 64
  pub buffer_small : buffer < 2 ^ 64
  pub delay_small : delay < 2 ^ 64
  pub one_word : is_word name.name ≡ true

abbrev pub IsInWords : List Name → Line → Type 0
IsInWords names (Play client source buffer delay) =
    IsAskedInWords (name_at names source) client buffer delay
IsInWords names (Pause client) = client < 2 ^ 64
IsInWords names (Resume client) = client < 2 ^ 64
IsInWords names (Look slot) = slot < 2 ^ 64
IsInWords names (Slot slot) = slot < 2 ^ 64
IsInWords names (Offer client source buffer delay wait) =
    IsAskedInWords (name_at names source) client buffer delay × (wait < 2 ^ 64)

-- the first word of lines of so many words
abbrev pub is_verb : ℕ → List ℕ → Bool
is_verb count verb =
    ((count == 2) && (bytes_eq verb (codes "pause") || bytes_eq verb (codes "resume")
    || bytes_eq verb (codes "look") || bytes_eq verb (codes "slot")))
    || ((count == 6) && bytes_eq verb (codes "play"))
    || ((count == 7) && bytes_eq verb (codes "offer"))
