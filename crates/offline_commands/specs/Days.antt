-- What `day` reads, and why it is refused.
use Rattle.std.specs.Prelude.{◌≡◌, ◌⊎◌, ℕ, ◌<◌, List, ◌∷◌, ◌++◌, All, length, map, slice_index_or}
use Rattle.std.specs.Prelude.{Option, Some, string_bytes}
use Rattle.std.specs.List.{Contains}
use Rattle.vod_base.specs.IoState.{File, file_named}
use Rattle.cli_errors.specs.declared.errors.InputError.{InputError}
use Rattle.cli_errors.specs.declared.errors.InputError.TheVariants.{BadScript}
use Rattle.inputs.specs.FileReads.{IsMissing}
use Rattle.inputs.specs.ChunkScans.{HoldsVideo, IsFilmRefused}
use Rattle.day_run.specs.declared.media.Source.{Source}
use Rattle.day_run.specs.declared.media.Source.TheVariants.{Film, Trace}
use Rattle.day_script.specs.declared.scripts.Named.{Named}
use Rattle.day_script.specs.declared.scripts.Script.{Script}
use Rattle.day_script.specs.declared.scripts.SourceKind.{SourceKind}
use Rattle.day_script.specs.declared.scripts.SourceKind.TheVariants as kinds
use Rattle.day_script.specs.ScriptReading.{IsBadLine, IsScript}
use Rattle.offline_commands.specs.OfflineCommands.{IfTold}
use Rattle.offline_commands.specs.Plans.{HoldsTrace, IsTraceRefused}

-- the library holds this script under a name
pub record HoldsScript (held : List File) (name : List ℕ) (script : Script) : Type 0 where
  pub text : List ℕ
  pub found : file_named held name ≡ Some text
  pub script_is : IsScript text script

-- the names of a script's films and traces
abbrev pub names_in : List Named → List (List ℕ)
names_in named = map (λ (n : Named). string_bytes n.name) named

-- the first bad line of the script of that name
pub record HasBadLine (held : List File) (name : List ℕ) (fault : InputError) : Type 0 where
  pub text : List ℕ
  pub line : ℕ
  pub found : file_named held name ≡ Some text
  pub bad : IsBadLine text line
  pub fault_is : fault ≡ BadScript line

abbrev pub IsScriptRefused : List File → List ℕ → InputError → Type 0
IsScriptRefused held name fault = IsMissing held name fault ⊎ HasBadLine held name fault

-- a film or trace by its name
abbrev pub IsNameOf : Named → List ℕ → Type 0
IsNameOf named name = name ≡ string_bytes named.name

-- what is named as a film is refused as a film, and what is named as a trace as a trace
abbrev pub IsRefusedAs : SourceKind → List File → List ℕ → InputError → Type 0
IsRefusedAs kinds.Film held name fault = IsFilmRefused held name fault
IsRefusedAs kinds.Trace held name fault = IsTraceRefused held name fault

abbrev pub IsNamedRefused : Named → List File → List ℕ → InputError → Type 0
IsNamedRefused named held name fault = IsRefusedAs named.kind held name fault

-- there is no reason to refuse a film or trace
abbrev pub IsNotRefusedAs : List File → Named → Type 0
IsNotRefusedAs held named =
    (fault : InputError) → IsNamedRefused named held (string_bytes named.name) fault → ⊥

-- the first of these films and traces that is refused has that name; each before it isn't refused
pub record IsFirstNamedRefused (named : List Named) (held : List File) (name : List ℕ)
    (fault : InputError) : Type 0 where
  pub before : List Named
  pub one : Named
  pub rest : List Named
  pub named_are : named ≡ before ++ one ∷ rest
  pub accepted : All (IsNotRefusedAs held) before
  pub name_is : IsNameOf one name
  pub refused : IsNamedRefused one held name fault

-- a film or trace is what the library holds under the name
abbrev pub IsHeldUnder : SourceKind → List File → List ℕ → Source → Type 0
IsHeldUnder kinds.Film held name (Film stored) = HoldsVideo held name stored.film.bytes.items
IsHeldUnder kinds.Trace held name (Trace sizes) = HoldsTrace held name sizes.items
IsHeldUnder _ held name _ = ⊥

abbrev pub IsHeldAs : List File → Named → Source → Type 0
IsHeldAs held named source = IsHeldUnder named.kind held (string_bytes named.name) source

-- all that are named are there, in their order
pub record AreHeldAs (held : List File) (named : List Named) (sources : List Source) : Type 0 where
  pub count : length sources ≡ length named
  pub each : (k : ℕ) (name : Named) (none : Source) → k < length named →
      IsHeldAs held (slice_index_or named k name) (slice_index_or sources k none)

-- a text was read as this script: the one under that name, where the library exposes what it holds
pub record IsScriptOf (told : Option (List File)) (name : List ℕ) (script : Script) : Type 0 where
  pub text : List ℕ
  pub found : IfTold told (λ held. file_named held name ≡ Some text)
  pub script_is : IsScript text script

-- the script of that name was read, and names a film or trace of this name
pub record IsPlayed (told : Option (List File)) (script name : List ℕ) : Type 0 where
  pub read : Script
  pub is : IsScriptOf told script read
  pub names : Contains (names_in read.named.items) name

-- the script is read, and then the films and traces that it names
abbrev pub IsDayInput : Option (List File) → List ℕ → List ℕ → Type 0
IsDayInput told script name = (name ≡ script) ⊎ IsPlayed told script name

-- the script is refused; or it is read, and one of the films and traces that it names is refused:
-- the first, in their order
abbrev pub IsDayRefused : List ℕ → List File → List ℕ → InputError → Type 0
IsDayRefused script held name fault =
    ((name ≡ script) × IsScriptRefused held name fault)
    ⊎ ((read : Script)
    × (HoldsScript held script read × IsFirstNamedRefused read.named.items held name fault))
