use Rattle.std.proofs.Common.{◌≡◌, ℕ, List, sym, subst}
use Rattle.inputs.specs.WireSizes.{AreSizesWithin, sizes_of}
use Rattle.inputs.proofs.ScanLemmas.{handed_on}
use Rattle.inputs.proofs.SizeLemmas.{film-limits, film-sizes}
use Rattle.inputs.proofs.collectors.size_film.Goals as goal

pub returns-clause-film : goal.returns-clause-film
returns-clause-film g c = λ held told.
    let heard = (c.in_ok-ending.ensures {u = tt}).film in
    let same = film-sizes heard.video c.scan_film_into.new.found.unit c.scan_film_into.new.found.sizes.items
    heard.ended.accepted heard.ended.heard in
    record { video = heard.video; holds = heard.holds held told; rate_is = heard.ended.rate_is; sizes_are = same }

pub returns-clause-limits : goal.returns-clause-limits
returns-clause-limits g c =
    let heard = (c.in_ok-ending.ensures {u = tt}).film in
    let same : c.scan_film_into.new.found.sizes.items ≡ sizes_of heard.video =
    film-sizes heard.video c.scan_film_into.new.found.unit
    c.scan_film_into.new.found.sizes.items heard.ended.accepted heard.ended.heard in
    subst (λ (l : List ℕ). AreSizesWithin c.in_ok-ending.ending.rate l) (sym same)
    (film-limits heard.video c.in_ok-ending.ending.rate heard.ended.accepted heard.ended.rate_is)

pub returns-in_err-ending-clause-error : goal.returns-in_err-ending-clause-error
returns-in_err-ending-clause-error g c =
    handed_on _ c.from_residual.result c.from_residual.ensures.1 ((c.in_err-ending.ensures {u = tt}).error)
