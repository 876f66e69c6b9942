-- Scanning a film of a library chunk by chunk.
use Rattle.std.specs.Prelude.{◌≡◌, ◌⊎◌, ℕ, ◌+◌, ◌≤◌, ◌^◌, List, [], ◌++◌, length, drop, Option}
use Rattle.std.specs.Prelude.{Some, None, IfSome}
use Rattle.vod_base.specs.IoState.{File, file_named}
use Rattle.mpeg_scan.specs.declared.faults.FilmFault.{FilmFault}
use Rattle.mpeg_scan.specs.declared.faults.ScanRefused.TheVariants.{Fault as FaultAnswer}
use Rattle.mpeg_scan.specs.declared.units.Unit.{Unit as PictureUnit}
use Rattle.mpeg_scan.specs.declared.scanner.Scanner.{Scanner}
use Rattle.mpeg_scan.specs.StartCodes.{read_after, codes_of}
use Rattle.mpeg_scan.specs.Calls.{Call, calls_of}
use Rattle.mpeg_scan.specs.FilmFaults.{first_fault}
use Rattle.mpeg_scan.specs.Films.{IsFilm, refusal, film_calls}
use Rattle.mpeg_scan.specs.ScannerState.{HasScannedBytes, refused_by}
use Rattle.mpeg_scan.specs.CodeFacts.{rate_of}
use Rattle.sys_demux.specs.ParserStates.{WasFed}
use Rattle.sys_demux.specs.declared.unwrapper.Unwrapper.{Unwrapper}
use Rattle.sys_demux.specs.SystemStreams.{IsBadStream}
use Rattle.inputs.specs.declared.streams.StreamError.{StreamError}
use Rattle.inputs.specs.declared.streams.StreamError.TheVariants.{Fault as StreamFault}
use Rattle.inputs.specs.declared.streams.StreamError.TheVariants.{NoMemory as NoRoom}
use Rattle.cli_errors.specs.declared.errors.CliError.{CliError}
use Rattle.cli_errors.specs.ReadErrors.{IsReadError}
use Rattle.inputs.specs.FileReads.{IsFilePrefix, IsThatName}
use Rattle.inputs.specs.WireSizes.{sizes_of}
pub use Rattle.inputs.specs.Videos.{IsFilmRefused, IsVideo, pack_in}

-- ---- a film

-- the library holds a film: the video in this file is accepted
pub record HoldsVideo (held : List File) (name : List ℕ) (video : List ℕ) : Type 0 where
  pub file : List ℕ
  pub found : file_named held name ≡ Some file
  pub short : length file ≤ 2 ^ 40
  pub is_video : IsVideo file video
  pub accepted : refusal video ≡ None

-- the film that the library holds has a video of this size, with this rate code and these units
pub record HoldsFilm (held : List File) (name : List ℕ) (size rate : ℕ) (units : List PictureUnit)
    : Type 0 where
  pub video : List ℕ
  pub holds : HoldsVideo held name video
  pub sized : size ≡ length video
  pub slices : List ℕ
  pub grammar : IsFilm video rate units slices

-- the film that the library holds has this rate code, and its units have these sizes on the wire
pub record HoldsSizes (held : List File) (name : List ℕ) (rate : ℕ) (sizes : List ℕ) : Type 0 where
  pub video : List ℕ
  pub holds : HoldsVideo held name video
  pub rate_is : rate ≡ rate_of (codes_of (read_after [] video))
  pub sizes_are : sizes ≡ sizes_of video

-- what keeps a film of that name from being scanned
abbrev pub IsScanError : List ℕ → Option (List File) → ℕ → ℕ → CliError → Type 0
IsScanError name told faults faults' error =
    IsReadError (IsThatName name) IsFilmRefused told faults faults' error

-- ---- what was scanned of it

-- all that ended in the video so far was reported
pub record HasReportedParts (Heard : List Call → Type 0) (scanner : Scanner) (video : List ℕ) : Type
    0 where
  pub fed : HasScannedBytes scanner (read_after [] video)
  pub heard : Heard (calls_of (codes_of (read_after [] video)))

-- a code of a prefix of the video is refused, and the scanner answers so from then on
pub record HasRefused (scanner : Scanner) (video : List ℕ) : Type 0 where
  pub fault : FilmFault
  pub answers : refused_by scanner ≡ Some (FaultAnswer fault)
  pub front : List ℕ
  pub rest : List ℕ
  pub video_is : video ≡ front ++ rest
  pub refused : first_fault (codes_of (read_after [] front)) ≡ Some fault

abbrev pub HasTaken : (List Call → Type 0) → Scanner → List ℕ → Type 0
HasTaken Heard scanner video = HasReportedParts Heard scanner video ⊎ HasRefused scanner video

-- the film before a place was scanned: the scanner was fed so many bytes, which are the start of
-- the file, where the library exposes what it holds
pub record HasScanned (Heard : List Call →
    Type 0) (told : Option (List File)) (name : List ℕ) (size place : ℕ) (scanner : Scanner)
    : Type 0 where
  pub bytes : List ℕ
  pub long : length bytes ≡ place
  pub scanned : HasReportedParts Heard scanner bytes
  pub front : (held : List File) → told ≡ Some held → IsFilePrefix held name size bytes

-- an unwrapper was fed these bytes, and the scanner the video among them
pub record HasUnwrapped (Heard : List Call →
    Type 0) (unwrapper : Unwrapper) (scanner : Scanner) (seen : List ℕ) : Type 0 where
  pub video : List ℕ
  pub fed : WasFed unwrapper seen video
  pub few : length video ≤ length seen
  pub taken : HasTaken Heard scanner video

-- all of it was scanned
pub record HasScannedAll (Heard : List Call →
    Type 0) (told : Option (List File)) (name : List ℕ) (size : ℕ) (scanner : Scanner)
    : Type 0 where
  pub bytes : List ℕ
  pub few : length bytes ≤ size
  pub scanned : HasReportedParts Heard scanner bytes
  pub whole : (held : List File) → told ≡ Some held → file_named held name ≡ Some bytes

-- the bytes of a file from a place on, as far as they were read
abbrev pub IsStreamFront : ℕ → ℕ → List ℕ → List File → List ℕ → Type 0
IsStreamFront size from seen held name = (before : List ℕ)
    × ((length before ≡ from) × IsFilePrefix held name size (before ++ seen))

-- the stream that begins at `from` was unwrapped up to a place of the file
pub record HasStreamed (Heard : List Call →
    Type 0) (told : Option (List File)) (name : List ℕ) (size from place : ℕ)
    (unwrapper : Unwrapper) (scanner : Scanner) : Type 0 where
  pub seen : List ℕ
  pub long : from + length seen ≡ place
  pub unwrapped : HasUnwrapped Heard unwrapper scanner seen
  pub front : (held : List File) → told ≡ Some held → IsStreamFront size from seen held name

-- all of it was unwrapped
pub record HasStreamedAll (Heard : List Call →
    Type 0) (told : Option (List File)) (name : List ℕ) (size from : ℕ) (unwrapper : Unwrapper)
    (scanner : Scanner) : Type 0 where
  pub seen : List ℕ
  pub few : length seen ≤ size
  pub unwrapped : HasUnwrapped Heard unwrapper scanner seen
  pub whole : (held : List File) → told ≡ Some held → (file : List ℕ)
      × ((file_named held name ≡ Some file) × (drop from file ≡ seen))

-- ---- a file whose first start code was looked for

-- the library holds a file of this size, in which a system stream begins there, if one does
pub record IsOpened (held : List File) (name : List ℕ) (size : ℕ) (from : Option ℕ) : Type 0 where
  pub file : List ℕ
  pub found : file_named held name ≡ Some file
  pub sized : size ≡ length file
  pub pack : pack_in file ≡ from
  pub within : IfSome from (λ place. place ≤ size)

-- the same, where the library exposes what it holds
abbrev pub WasOpened : Option (List File) → List ℕ → ℕ → Option ℕ → Type 0
WasOpened told name size from = (held : List File) → told ≡ Some held → IsOpened held name size from

-- the result of an entire video: it was accepted and all its parts were reported; or it is refused
pub record HasEnded (Heard : List Call → Type 0) (video : List ℕ) (size rate : ℕ) : Type 0 where
  pub accepted : refusal video ≡ None
  pub sized : size ≡ length video
  pub rate_is : rate ≡ rate_of (codes_of (read_after [] video))
  pub heard : Heard (film_calls video)

abbrev pub IsRefusedAtEnd : (List Call → Type 0) → Scanner → FilmFault → Type 0
IsRefusedAtEnd Heard scanner fault =
    (video : List ℕ) → length video ≤ 2 ^ 40 → HasTaken Heard scanner video →
    refusal video ≡ Some fault

-- a film was accepted, with this size and rate code, and all its parts were reported; it is the one
-- that the library holds, where it exposes what that is
pub record HasScannedFilm (Heard : List Call →
    Type 0) (told : Option (List File)) (name : List ℕ) (size rate : ℕ) : Type 0 where
  pub video : List ℕ
  pub ended : HasEnded Heard video size rate
  pub holds : (held : List File) → told ≡ Some held → HoldsVideo held name video

-- why a chunk of a stream is refused, after these bytes of it and whatever follows
abbrev pub IsChunkRefused : List ℕ → List ℕ → StreamError → Type 0
IsChunkRefused seen chunk (StreamFault fault) = (more : List ℕ) →
    IsBadStream (seen ++ chunk ++ more) fault
IsChunkRefused seen chunk NoRoom = Unit {0}
