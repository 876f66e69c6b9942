use Rattle.std.proofs.Common.{refl}
use Rattle.mpeg_scan.specs.Films.{slices_in, film_calls}
use Rattle.inputs.proofs.ScanLemmas.{handed_on}
use Rattle.inputs.proofs.collectors.scan_film.Goals as goal

pub returns-clause-film : goal.returns-clause-film
returns-clause-film g c = λ held told.
    let heard = (c.in_ok-ending.ensures {u = tt}).film in
    record {
      video = heard.video;
      holds = heard.holds held told;
      sized = heard.ended.sized;
      slices = slices_in (film_calls heard.video);
      grammar = record {
        accepted = heard.ended.accepted;
        rate = heard.ended.rate_is;
        units = heard.ended.heard;
        slices = refl;
      };
    }

pub returns-in_err-ending-clause-error : goal.returns-in_err-ending-clause-error
returns-in_err-ending-clause-error g c =
    handed_on _ c.from_residual.result c.from_residual.ensures.1 ((c.in_err-ending.ensures {u = tt}).error)
