-- A film that is loaded to be served.
use Rattle.std.proofs.Common.{◌≡◌, ℕ, ◌-◌, ◌<◌, List, [], length, take, drop, Some, None, Option}
use Rattle.std.proofs.Common.{inl, inr, refl, sym, arith, subst}
use Rattle.vod_base.specs.IoState.{File}
use Rattle.mpeg_scan.specs.Films.{refusal}
use Rattle.sys_demux.specs.SystemStreams.{IsSystem}
use Rattle.cli_errors.specs.declared.errors.InputError.{InputError}
use Rattle.cli_errors.specs.declared.errors.CliError.{CliError}
use Rattle.inputs.specs.FileReads.{IsFilePrefix}
use Rattle.inputs.specs.LoadErrors.{IsFileBytesError, IsFilmError}
use Rattle.inputs.specs.Videos.{IsRefusedAbove, IsVideo, IsVideoFrom, IsVideoRefused, pack_in}
use Rattle.inputs.proofs.RefusalLemmas.{each_film_fault, refusal_map}
use Rattle.inputs.proofs.TokenLemmas.{slice_from}

-- a file that has too many bytes
pub size_above : {held : List File} {name : List ℕ} {size : ℕ} → IsFilePrefix held name size [] → (most : ℕ)
    (over : InputError) → most < size → IsRefusedAbove most over held name over
size_above front most over long = inr (front.whole, (front.found, inl (omega (arith, front.sized, long), refl)))

-- the video of a file without a system stream
pub plain_is : (file : List ℕ) → pack_in file ≡ None → IsVideo file file
plain_is file pack = subst (λ (o : Option ℕ). IsVideoFrom o file file) (sym pack) refl

-- the video of a file's system stream, and its fault
pub stream_is : (file video : List ℕ) (from : ℕ) → pack_in file ≡ Some from
    → IsSystem (take (length file - from) (drop from file)) video → IsVideo file video
stream_is file video from pack system =
    subst (λ (o : Option ℕ). IsVideoFrom o file video) (sym pack)
    (subst (λ (l : List ℕ). IsSystem l video) (slice_from file from) system)

-- the refusal of a file's video is that of the file
pub video_trouble : (name file video : List ℕ) (t : CliError) → IsVideo file video
    → IsFilmError name (λ fault. refusal video ≡ Some fault) t → IsFileBytesError name file t
video_trouble name file video t is h =
    refusal_map name t
    (λ fault refused. each_film_fault (IsVideoRefused file) fault (λ own its. (video, (is, its))) refused) h
