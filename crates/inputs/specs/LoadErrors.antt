-- Films that are loaded to be served.
use Rattle.std.specs.Prelude.{◌≡◌, ℕ, ◌+◌, ◌≤◌, ◌^◌, List, length}
use Rattle.vod_base.specs.IoState.{File}
use Rattle.mpeg_scan.specs.declared.faults.FilmFault.{FilmFault}
use Rattle.sys_demux.specs.SystemStreams.{IsBadStream}
use Rattle.sys_demux.specs.declared.faults.SystemFault.{SystemFault}
use Rattle.inputs.specs.declared.streams.StreamError.{StreamError}
use Rattle.inputs.specs.declared.streams.StreamError.TheVariants.{Fault as StreamFault}
use Rattle.inputs.specs.declared.streams.StreamError.TheVariants.{NoMemory as NoRoom}
use Rattle.inputs.specs.Videos.{IsRefusedAbove, IsVideoRefused, fault_from}
use Rattle.cli_errors.specs.declared.errors.InputError.{InputError}
use Rattle.cli_errors.specs.declared.errors.InputError.TheVariants.{Film, FilmTooLarge, System}
use Rattle.cli_errors.specs.declared.errors.CliError.{CliError}
use Rattle.cli_errors.specs.declared.errors.CliError.TheVariants.{Refused, NoMemory}

-- a film that a server holds has at most 2^30 bytes
abbrev pub IsServedFilmRefused : List File → List ℕ → InputError → Type 0
IsServedFilmRefused = IsRefusedAbove (2 ^ 30) FilmTooLarge

-- the input of that name is refused for such a fault; or out of memory
abbrev pub IsRefusal : List ℕ → (InputError → Type 0) → CliError → Type 0
IsRefusal name Refuses (Refused other fault) = (other.now ≡ name) × Refuses fault
IsRefusal name Refuses NoMemory = Unit {0}
IsRefusal name Refuses other = ⊥

abbrev pub IsFilmFault : (FilmFault → Type 0) → InputError → Type 0
IsFilmFault Refuses (Film fault) = Refuses fault
IsFilmFault Refuses other = ⊥

abbrev pub IsSystemFault : (SystemFault → Type 0) → InputError → Type 0
IsSystemFault Refuses (System fault) = Refuses fault
IsSystemFault Refuses other = ⊥

-- the refusal of a video, of a system stream, and of the film that the bytes of a file are
abbrev pub IsFilmError : List ℕ → (FilmFault → Type 0) → CliError → Type 0
IsFilmError name Refuses = IsRefusal name (IsFilmFault Refuses)

abbrev pub IsSystemError : List ℕ → (SystemFault → Type 0) → CliError → Type 0
IsSystemError name Refuses = IsRefusal name (IsSystemFault Refuses)

abbrev pub IsFileBytesError : List ℕ → List ℕ → CliError → Type 0
IsFileBytesError name file = IsRefusal name (IsVideoRefused file)

-- why a stream can't be unwrapped
abbrev pub IsStreamError : List ℕ → StreamError → Type 0
IsStreamError stream (StreamFault fault) = IsBadStream stream fault
IsStreamError stream NoRoom = Unit {0}

-- a fault of a stream that begins at a place of the file, as a fault of the file
abbrev pub IsMovedFault : ℕ → SystemFault → SystemFault → Type 0
IsMovedFault from own fault =
    (bytes : List ℕ) → IsBadStream bytes own → from + length bytes ≤ 2 ^ 40 →
    fault ≡ fault_from from own

-- the same of the fault for which a stream is refused
abbrev pub IsToldFault : ℕ → StreamError → SystemFault → Type 0
IsToldFault from (StreamFault own) fault = IsMovedFault from own fault
IsToldFault from NoRoom fault = ⊥

-- there is no reason to refuse that file
abbrev pub IsNotRefused : (List File → List ℕ → InputError → Type 0) → List File → List ℕ → Type 0
IsNotRefused Refuses held name = (fault : InputError) → Refuses held name fault → ⊥
