use Rattle.std.proofs.Common.{ℕ, List, Option, subst}
use Rattle.std.specs.Borrow.{Bor}
use Rattle.std.specs.Option.{option_copied}
use Rattle.rtsp_fields.specs.Urls.{IsRead}
use Rattle.film_streams.proofs.FilmUrlLemmas.{film_once, named_once, read_none}
use Rattle.film_streams.proofs.films.asked_film.Goals as goal

pub returns-in_err-name-clause-asked : goal.returns-in_err-name-clause-asked
returns-in_err-name-clause-asked c =
    let IsReadAs : Option (Bor (List ℕ)) → Type 0 =
    λ name. IsRead c.args.url.now c.in_ok-read.read.authority.now (option_copied name) in
    rw c.from_residual-in_err-name.ensures
    (λ authority film names. read_none c.args.url.now c.in_ok-read.read.authority.now authority names.name
    (subst IsReadAs c.in_err-name.was c.in_ok-read.ensures.read) names.read)

pub returns-in_err-film-clause-asked : goal.returns-in_err-film-clause-asked
returns-in_err-film-clause-asked c =
    let IsReadAs : Option (Bor (List ℕ)) → Type 0 =
    λ name. IsRead c.args.url.now c.in_ok-read.read.authority.now (option_copied name) in
    rw c.from_residual-in_err-film.ensures
    (λ authority film names. c.in_err-film.ensures.found film
    (named_once
    (subst IsReadAs c.in_ok-name.was c.in_ok-read.ensures.read) names))

pub returns-clause-one : goal.returns-clause-one
returns-clause-one c authority film names =
    let IsReadAs : Option (Bor (List ℕ)) → Type 0 =
    λ name. IsRead c.args.url.now c.in_ok-read.read.authority.now (option_copied name) in
    film_once c.requires
    (named_once
    (subst IsReadAs c.in_ok-name.was c.in_ok-read.ensures.read) names)
    c.in_ok-film.ensures.found
