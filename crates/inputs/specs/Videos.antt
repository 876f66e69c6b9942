-- The video of a file: its bytes, or, where its first start code is that of a pack, what the
-- packets of this system stream carry (ISO/IEC 11172-1).
use Rattle.std.specs.Prelude.{◌≡◌, ℕ, ◌+◌, ◌==◌, ◌≤◌, ◌<◌, ◌^◌, ◌⊎◌, if◌then◌else◌, List, [], ◌∷◌}
use Rattle.std.specs.Prelude.{length, drop, Option, Some, None}
use Rattle.vod_base.specs.IoState.{File, file_named}
use Rattle.mpeg_scan.specs.declared.codes.Code.{Code}
use Rattle.mpeg_scan.specs.declared.faults.FilmFault.TheVariants.{TooLong}
use Rattle.mpeg_scan.specs.StartCodes.{codes_of, read_after}
use Rattle.mpeg_scan.specs.Films.{refusal}
use Rattle.sys_demux.specs.SystemStreams.{IsSystem, IsBadStream}
use Rattle.sys_demux.specs.declared.faults.SystemFault.{SystemFault}
use Rattle.sys_demux.specs.declared.faults.SystemFault.TheVariants.{NotPack, BadCode, BadPacket}
use Rattle.sys_demux.specs.declared.faults.SystemFault.TheVariants.{Truncated}
use Rattle.inputs.specs.FileReads.{IsMissing}
use Rattle.cli_errors.specs.declared.errors.InputError.{InputError}
use Rattle.cli_errors.specs.declared.errors.InputError.TheVariants.{Film, System}

-- the place of the first of these start codes, which are given the latest first, where it is that
-- of a pack
abbrev pub pack_of : List Code → Option ℕ
pack_of [] = None
pack_of (code ∷ []) = if code.value == 0xba then Some code.place else None
pack_of (code ∷ (older ∷ codes)) = pack_of (older ∷ codes)

-- where in a file a system stream begins
abbrev pub pack_in : List ℕ → Option ℕ
pack_in file = pack_of (codes_of (read_after [] file))

abbrev pub IsVideoFrom : Option ℕ → List ℕ → List ℕ → Type 0
IsVideoFrom None file video = video ≡ file
IsVideoFrom (Some place) file video = IsSystem (drop place file) video

abbrev pub IsVideo : List ℕ → List ℕ → Type 0
IsVideo file video = IsVideoFrom (pack_in file) file video

abbrev pub place_of : SystemFault → ℕ
place_of (NotPack at) = at
place_of (BadCode at) = at
place_of (BadPacket at) = at
place_of (Truncated at) = at

-- a fault of a stream that begins at a place of the file
abbrev pub fault_from : ℕ → SystemFault → SystemFault
fault_from place (NotPack at) = NotPack (place + at)
fault_from place (BadCode at) = BadCode (place + at)
fault_from place (BadPacket at) = BadPacket (place + at)
fault_from place (Truncated at) = Truncated (place + at)

abbrev pub IsStreamFaultFrom : Option ℕ → List ℕ → SystemFault → Type 0
IsStreamFaultFrom None file fault = ⊥
IsStreamFaultFrom (Some place) file fault = (own : SystemFault)
    × (IsBadStream (drop place file) own × (fault ≡ fault_from place own))

abbrev pub IsStreamFault : List ℕ → SystemFault → Type 0
IsStreamFault file fault = IsStreamFaultFrom (pack_in file) file fault

-- why the film that a file is, is refused: its stream is, and else its video
abbrev pub IsVideoRefused : List ℕ → InputError → Type 0
IsVideoRefused file (Film fault) = (video : List ℕ)
    × (IsVideo file video × (refusal video ≡ Some fault))
IsVideoRefused file (System fault) = IsStreamFault file fault
IsVideoRefused file other = ⊥

-- the same of a file of any size: more bytes than the most are too many
abbrev pub IsFileRefused : ℕ → InputError → List ℕ → InputError → Type 0
IsFileRefused most over file fault = ((most < length file) × (fault ≡ over))
    ⊎ ((length file ≤ most) × IsVideoRefused file fault)

-- no such file, or its refusal
abbrev pub IsRefusedAbove : ℕ → InputError → List File → List ℕ → InputError → Type 0
IsRefusedAbove most over held name fault =
    IsMissing held name fault
    ⊎ ((file : List ℕ)
    × ((file_named held name ≡ Some file) × IsFileRefused most over file fault))

-- a film has at most 2^40 bytes
abbrev pub IsFilmRefused : List File → List ℕ → InputError → Type 0
IsFilmRefused = IsRefusedAbove (2 ^ 40) (Film TooLong)
