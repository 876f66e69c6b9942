-- A file has one video, and none where it is refused.
use Rattle.std.proofs.Common.{◌≡◌, ◌≤◌, ℕ, List, length, Some, None, Option, inl, inr, sym, ap, ◌∙◌, arith, subst}
use Rattle.vod_base.specs.IoState.{File}
use Rattle.mpeg_scan.specs.declared.faults.FilmFault.TheVariants.{TooLong}
use Rattle.mpeg_scan.specs.Films.{refusal}
use Rattle.sys_demux.specs.declared.faults.SystemFault.{SystemFault}
use Rattle.sys_demux.proofs.ReadingUniqueness.{not_both, video_once as stream_once}
use Rattle.cli_errors.specs.declared.errors.InputError.{InputError}
use Rattle.cli_errors.specs.declared.errors.InputError.TheVariants.{Film, System}
use Rattle.inputs.specs.ChunkScans.{HoldsVideo, IsFilmRefused}
use Rattle.inputs.specs.Videos.{IsRefusedAbove, IsStreamFaultFrom, IsVideo, IsVideoFrom, IsVideoRefused, pack_in}
use Rattle.inputs.proofs.ReadLemmas.{one_file}

from_once : (pack : Option ℕ) (file a b : List ℕ) → IsVideoFrom pack file a → IsVideoFrom pack file b → a ≡ b
from_once None file a b p q = p ∙ sym q
from_once (Some place) file a b p q = stream_once _ a b p q

pub video_once : (file a b : List ℕ) → IsVideo file a → IsVideo file b → a ≡ b
video_once file a b p q = from_once (pack_in file) file a b p q

-- what a library holds has one video
pub held_once : (held : List File) (name a b : List ℕ) → HoldsVideo held name a → HoldsVideo held name b → a ≡ b
held_once held name a b p q =
    video_once q.file a b
    (subst (λ (f : List ℕ). IsVideo f a) (one_file held name p.file q.file p.found q.found) p.is_video) q.is_video

from_not_fault : (pack : Option ℕ) (file video : List ℕ) (fault : SystemFault) → IsVideoFrom pack file video
    → IsStreamFaultFrom pack file fault → ⊥
from_not_fault None file video fault p q = q
from_not_fault (Some place) file video fault p q = not_both _ video q.0 p q.1.0

video_not_refused : (file video : List ℕ) (fault : InputError) → IsVideo file video → refusal video ≡ None
    → IsVideoRefused file fault → ⊥
video_not_refused file video (Film fault) is accepted refused =
    let same : video ≡ refused.0 = video_once file video refused.0 is refused.1.0 in
    let both : None ≡ Some fault = sym accepted ∙ ap refusal same ∙ refused.1.1 in cc
video_not_refused file video (System fault) is accepted refused =
    from_not_fault (pack_in file) file video fault is refused
video_not_refused file video other is accepted refused = refused

-- a file that isn't larger, and whose video is accepted, isn't refused
pub file_not_refused : {held : List File} {name video : List ℕ} {most : ℕ} (over fault : InputError)
    → (holds : HoldsVideo held name video) → length holds.file ≤ most → IsRefusedAbove most over held name fault → ⊥
file_not_refused over fault holds short (inl missing) =
    let both : Some holds.file ≡ None = sym holds.found ∙ missing.1 in cc
file_not_refused {held} {name} {video} over fault holds short (inr other) =
    let same : holds.file ≡ other.0 = one_file held name holds.file other.0 holds.found other.1.0 in
    elim other.1.1 [
      | inl long ↦ omega (arith, ap length same, short, long.0)
      | inr refused ↦
          video_not_refused other.0 video fault (subst (λ (f : List ℕ). IsVideo f video) same holds.is_video)
          holds.accepted refused.1
    ]

-- what is accepted isn't refused
pub held_not_refused : (held : List File) (name video : List ℕ) (fault : InputError) → HoldsVideo held name video
    → IsFilmRefused held name fault → ⊥
held_not_refused held name video fault holds refused = file_not_refused (Film TooLong) fault holds holds.short refused
