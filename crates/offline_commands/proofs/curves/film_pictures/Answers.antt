use Rattle.std.proofs.Common.{ℕ, refl, subst, sym}
use Rattle.offline_commands.specs.Pictures.{MayHaveCurves}
use Rattle.offline_commands.proofs.PictureLemmas.{film_limits}
use Rattle.offline_commands.proofs.curves.film_pictures.Goals as goal

pub returns-clause-limits : goal.returns-clause-limits
returns-clause-limits g c =
    subst (λ (time : ℕ). MayHaveCurves
    (record { sizes = c.in_ok-film.film.sizes.items; picture_units = time; slot_units = c.args.slot }))
    (sym c.picture_time.ensures)
    (film_limits c.in_ok-film.film.rate c.args.slot c.in_ok-film.film.sizes.items
    ((c.in_ok-film.ensures {u = tt}).limits) c.requires)

pub returns-clause-pictures : goal.returns-clause-pictures
returns-clause-pictures g c = λ held told. record {
  rate = c.in_ok-film.film.rate;
  holds = (c.in_ok-film.ensures {u = tt}).film held told;
  picture_units_are = c.picture_time.ensures;
  slot_units_are = refl;
}
