use Rattle.std.proofs.Common.{◌≡◌, ◌∙◌, length, map, ap, sym, inl, inr, arith}
use Rattle.std.proofs.lemmas.List.{get_or-map, length-map}
use Rattle.std.proofs.lemmas.Option.{slice_get_cases}
use Rattle.film_frames.specs.Pieces.{wire_size}
use Rattle.film_run.proofs.units.StoredUnits.wire_size.Goals as goal

pub returns : goal.returns
returns c =
    let film = c.args.self.now.film in
    let count : length (map (λ u. wire_size film.slice_starts.items u) film.units.items)
    ≡ length film.units.items = length-map film.units.items (λ u. wire_size film.slice_starts.items u) in
    elim (slice_get_cases film.units.items c.args.unit).1 [
      | inl found ↦
          c.wire_size.ensures.size found.0 found.2
          ∙ ap (λ u. wire_size film.slice_starts.items u) (sym found.3)
          ∙ sym (get_or-map (λ u. wire_size film.slice_starts.items u) film.units.items c.args.unit found.0 0 found.1)
      | inr past ↦ absurd (omega (arith, count, past.0, c.requires))
    ]
