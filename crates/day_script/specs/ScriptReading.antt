-- A script, read line by line.
use Rattle.std.specs.Prelude.{ℕ, ◌≡◌, ◌-◌, ◌≤◌, Bool, true, false, ◌&&◌, ◌==◌, ◌⊎◌, if◌then◌else◌}
use Rattle.std.specs.Prelude.{nat_lt, List, [], ◌∷◌, ◌++◌, length, map, take, slice_index_or, All}
use Rattle.std.specs.Prelude.{Option, Some, None, string_bytes}
use Rattle.std.specs.BTreeMap.{get_by_text}
use Rattle.std.specs.List.{position_or_len, slice_split}
use Rattle.std.specs.Option.{option_and_then}
use Rattle.std.specs.Str.{bytes_eq}
use Rattle.vod_base.specs.Names.{good_name}
use Rattle.day_script.specs.declared.script_reader.TheConstants.{MAX_LINES}
use Rattle.day_script.specs.declared.messages.PlayParams.{PlayParams}
use Rattle.day_script.specs.declared.messages.Message.{Message}
use Rattle.day_script.specs.declared.messages.Message.TheVariants.{Play, Pause, Resume, Look, Slot}
use Rattle.day_script.specs.declared.messages.Message.TheVariants.{Offer}
use Rattle.day_script.specs.declared.scripts.Line.{Line}
use Rattle.day_script.specs.declared.scripts.Line.TheVariants as lines
use Rattle.day_script.specs.declared.scripts.Named.{Named}
use Rattle.day_script.specs.declared.scripts.Script.{Script}
use Rattle.day_script.specs.declared.scripts.SourceKind.{SourceKind}
use Rattle.day_script.specs.declared.scripts.SourceKind.TheVariants.{Film, Trace}
use Rattle.day_script.specs.declared.scripts.ScriptRefused.{ScriptRefused}
use Rattle.day_script.specs.declared.scripts.ScriptRefused.TheVariants.{BadScript, NoMemory}
use Rattle.day_script.specs.declared.script_reader.ScriptBuilder.{ScriptBuilder}
use Rattle.day_script.specs.declared.script_reader.NameTable.{NameTable}
use Rattle.day_script.specs.TextLines.{is_space, lines_of_script}
use Rattle.day_script.specs.MessageWords.{message_in}
use Rattle.day_script.specs.Scripts.{AreLines, latest_slot, AreClients}

-- a film or trace by its name
pub record Name : Type 0 where
  pub kind : SourceKind
  pub name : List ℕ

abbrev pub name_of : Named → Name
name_of named = record { kind = named.kind; name = string_bytes named.name }

abbrev pub names_of : List Named → List Name
names_of named = map name_of named

abbrev pub name_as : SourceKind → List ℕ → Name
name_as kind name = record { kind = kind; name = name }

-- what was read: the lines, the names, and the slot of the last `slot` line, 0 before the first
pub record Reading : Type 0 where
  pub lines : List Line
  pub names : List Name
  pub slot : ℕ

abbrev pub nothing_read : Reading
nothing_read = record { lines = []; names = []; slot = 0 }

abbrev pub is_kind : SourceKind → SourceKind → Bool
is_kind Film Film = true
is_kind Trace Trace = true
is_kind _ _ = false

abbrev pub is_name : Name → Name → Bool
is_name one other = is_kind one.kind other.kind && bytes_eq one.name other.name

-- the place of a name, the next one where it is new
abbrev pub source_in : List Name → Name → ℕ
source_in names name = position_or_len (is_name name) names

-- the same of a name that is there; None where it is new
abbrev pub known_place : List Name → Name → Option ℕ
known_place names name = if nat_lt (source_in names name) (length names)
    then Some (source_in names name) else None

-- the names, with this one after them where it is new
abbrev pub with_name : List Name → Name → List Name
with_name names name = if nat_lt (source_in names name) (length names)
    then names else names ++ name ∷ []

abbrev pub with_line : Reading → Line → Reading
with_line r line = record r { lines = r.lines ++ line ∷ [] }

-- the same of a line with a name, which is to be one that a file may have
abbrev pub with_named : Reading → Name → (ℕ → Line) → Option Reading
with_named r name line =
    if good_name name.name
    then Some (record r {
      lines = r.lines ++ line (source_in r.names name) ∷ [];
      names = with_name r.names name;
    })
    else None

-- the film or trace that the fourth word of a line names
abbrev pub named_in : List (List ℕ) → PlayParams → Name
named_in words asked = name_as asked.kind (slice_index_or words 3 [])

-- what was read with one more line, of these words; None where it may not stand there, as a `slot`
-- line that isn't later
abbrev pub with_message : Reading → List (List ℕ) → Message → Option Reading
with_message r words (Play asked) =
    with_named r (named_in words asked) (λ source.
    lines.Play asked.client source asked.buffer asked.delay)
with_message r words (Pause client) = Some (with_line r (lines.Pause client))
with_message r words (Resume client) = Some (with_line r (lines.Resume client))
with_message r words (Look slot) = Some (with_line r (lines.Look slot))
with_message r words (Slot slot) =
    if nat_lt r.slot slot
    then Some (record r { lines = r.lines ++ lines.Slot slot ∷ []; slot = slot }) else None
with_message r words (Offer asked wait) =
    with_named r (named_in words asked) (λ source.
    lines.Offer asked.client source asked.buffer asked.delay wait)

abbrev pub with_words : Reading → List (List ℕ) → Option Reading
with_words r words = option_and_then (with_message r words) (message_in words)

-- an empty line says nothing
abbrev pub line_read : Reading → List ℕ → Option Reading
line_read r line = if length line == 0 then Some r else with_words r (slice_split is_space line)

-- what is read of lines; None where one of them may not stand there
abbrev pub lines_read : Reading → List (List ℕ) → Option Reading
lines_read r [] = Some r
lines_read r (line ∷ lines) = option_and_then (λ next. lines_read next lines) (line_read r line)

-- what a draft has read
abbrev pub reading_of : ScriptBuilder → Reading
reading_of draft = record {
  lines = draft.lines.items;
  names = names_of draft.roster.named.items;
  slot = draft.slot;
}

-- this is the place of a good name, which was noted, and nothing else was
pub record IsPlaceOf (old new : Reading) (name : Name) (place : ℕ) : Type 0 where
  pub good : good_name name.name ≡ true
  pub place_is : place ≡ source_in old.names name
  pub new_is : new ≡ record old { names = with_name old.names name }

-- a line was taken in, or may not stand there
abbrev pub IsLineTaken : Bool → Reading → Option Reading → Type 0
IsLineTaken true new read = read ≡ Some new
IsLineTaken false new read = read ≡ None

-- a name that a file may have
abbrev pub HasGoodName : Named → Type 0
HasGoodName named = good_name (string_bytes named.name) ≡ true

-- the places by name are those of the films and traces among these names
pub record HasPlaces (names : List Name) (roster : NameTable) : Type 0 where
  pub films : (name : List ℕ) →
      get_by_text roster.films name ≡ known_place names (name_as Film name)
  pub traces : (name : List ℕ) →
      get_by_text roster.traces name ≡ known_place names (name_as Trace name)

-- its names are good, and the places by name are theirs
pub record IsRoster (roster : NameTable) : Type 0 where
  pub good : All HasGoodName roster.named.items
  pub places : HasPlaces (names_of roster.named.items) roster

-- its lines are those of a script with its names and 256 clients, and the slot is that of their
-- last `slot` line
pub record IsDraft (draft : ScriptBuilder) : Type 0 where
  pub lines : AreLines (length draft.roster.named.items) draft.lines.items
  pub clients : AreClients draft.lines.items
  pub slot_is : draft.slot ≡ latest_slot draft.lines.items
  pub roster : IsRoster draft.roster

-- a text is this script
pub record IsScript (text : List ℕ) (script : Script) : Type 0 where
  pub few : length (lines_of_script text) ≤ MAX_LINES
  pub slot : ℕ
  pub read : lines_read nothing_read (lines_of_script text)
      ≡ Some (record {
        lines = script.lines.items;
        names = names_of script.named.items;
        slot = slot;
      })

-- this line, from 1, is the first of a text that may not stand there
pub record IsBadLine (text : List ℕ) (line : ℕ) : Type 0 where
  pub reading : Reading
  pub some : 1 ≤ line
  pub few : line ≤ 1000001
  pub inside : line ≤ length (lines_of_script text)
  pub before : lines_read nothing_read (take (line - 1) (lines_of_script text)) ≡ Some reading
  pub here : (line ≡ 1000001)
      ⊎ (line_read reading (slice_index_or (lines_of_script text) (line - 1) []) ≡ None)

-- why a text isn't read
abbrev pub IsTextRefused : List ℕ → ScriptRefused → Type 0
IsTextRefused text (BadScript line) = IsBadLine text line
IsTextRefused text NoMemory = Unit {0}
