use Rattle.std.proofs.Common.{sym, subst}
use Rattle.std.specs.Prelude.{All}
use Rattle.film_frames.specs.declared.stored_films.Stored.{Stored}
use Rattle.vodserve.specs.WorkerResults.{IsHeld}
use Rattle.vodserve.proofs.FilmLoadLemmas.{held_film}
use Rattle.std.proofs.lemmas.List.Elements.{All-push}
use Rattle.vodserve.proofs.served_films.add_film.Goals as goal

pub returns-clause-held : goal.returns-clause-held
returns-clause-held g c =
    let InLibrary : Stored → Type 0 = IsHeld (g.L.Library.files c.args.library.now) in
    let film : InLibrary c.in_ok-film.film =
    held_film (g.L.Library.files c.args.library.now) c.in_ok-film.film c.in-Some.name.now
    ((c.in_ok-film.ensures {u = tt}).name)
    (λ held told. (c.in_ok-film.ensures {u = tt}).film held told)
    (λ held told. (c.in_ok-film.ensures {u = tt}).small held told) in
    λ all. subst (All InLibrary) (sym ((c.in_ok-push.ensures {u = tt}).items))
    (All-push InLibrary c.args.films.now.items c.in_ok-film.film all film)
