use Rattle.std.proofs.Common.{◌≡◌, Some, subst, sym}
use Rattle.mpeg_scan.specs.Films.{refusal}
use Rattle.mpeg_scan.specs.declared.films.Film.{Film}
use Rattle.inputs.specs.LoadErrors.{IsFileBytesError, IsFilmError}
use Rattle.inputs.specs.Videos.{IsVideo}
use Rattle.inputs.proofs.LoadLemmas.{video_trouble}
use Rattle.inputs.proofs.ScanLemmas.{handed_on, ok_map}
use Rattle.std.proofs.lemmas.Result.{IfErr-weaker}
use Rattle.inputs.proofs.films.scan_file.Goals as goal

pub returns-clause-film : goal.returns-clause-film
returns-clause-film c =
    ok_map (λ (film : Film). film.bytes.items ≡ c.in_ok-video.video.items)
    (λ (film : Film). IsVideo c.args.file.items film.bytes.items) c.scan_video.result
    (λ film same. subst (IsVideo c.args.file.items) (sym same)
    ((c.in_ok-video.ensures {u = tt}).video)) c.scan_video.ensures.film

pub returns-clause-error : goal.returns-clause-error
returns-clause-error c =
    IfErr-weaker c.scan_video.result
    (IsFilmError c.args.name.now (λ fault. refusal c.in_ok-video.video.items ≡ Some fault))
    (IsFileBytesError c.args.name.now c.args.file.items)
    (λ t h. video_trouble c.args.name.now c.args.file.items c.in_ok-video.video.items t
    ((c.in_ok-video.ensures {u = tt}).video) h) c.scan_video.ensures.error

pub returns-in_err-video-clause-error : goal.returns-in_err-video-clause-error
returns-in_err-video-clause-error c =
    handed_on _ c.from_residual.result c.from_residual.ensures.1 ((c.in_err-video.ensures {u = tt}).error)
