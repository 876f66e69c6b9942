use Rattle.std.proofs.Common.{◌<◌, length, refl, sym, ap, ◌∙◌, string_bytes, arith, below_more}
use Rattle.std.proofs.lemmas.Option.{get_or_from_slice_get, slice_get_read, slice_get_within}
use Rattle.std.specs.Cmp.Lexicographic.{same_text, other_text}
use Rattle.film_frames.specs.declared.stored_films.Stored.{Stored}
use Rattle.film_streams.specs.Films.{IsFilmNamed}
use Rattle.film_streams.proofs.films.find.Goals as goal

pub returns-then-eq-clause-found : goal.returns-then-eq-clause-found
returns-then-eq-clause-found c = record {
  stored = c.index-films-number.result;
  at = slice_get_read c.args.films.now (length c.args.films.now) c.loop-number.number c.index-films-number.result refl
      c.loop-number-test.true c.index-films-number.is;
  name_is =
      sym c.as_bytes.ensures.value ∙ same_text c.as_bytes.result.now c.args.name.now (sym c.if-eq.true ∙ c.eq.ensures);
}

pub loop-number-preserved : goal.loop-number-preserved
loop-number-preserved c =
    let here : IsFilmNamed c.args.films.now c.args.name.now c.loop-number.number → ⊥ =
    λ named. other_text c.as_bytes.result.now c.args.name.now (sym c.if-eq.false ∙ c.eq.ensures)
    (c.as_bytes.ensures.value
    ∙ ap (λ (film : Stored). string_bytes film.name) (c.index-films-number.is
    ∙ get_or_from_slice_get c.args.films.now c.loop-number.number named.stored c.index-films-number.result named.at)
    ∙ named.name_is) in
    below_more (λ k. IsFilmNamed c.args.films.now c.args.name.now k
    → ⊥) c.loop-number.number c.loop-number.invariant here

pub returns-clause-found : goal.returns-clause-found
returns-clause-found c film named =
    let inside : film < length c.args.films.now = slice_get_within c.args.films.now film named.stored named.at in
    c.loop-number.invariant film (omega arith) named
