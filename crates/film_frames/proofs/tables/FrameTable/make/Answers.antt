use Rattle.std.proofs.lemmas.Grind.{common_steps}
use Rattle.std.proofs.Common.{arith}
use Rattle.film_frames.proofs.FilmPieceLemmas.{film-few}
use Rattle.film_frames.proofs.RunPieceLemmas.{all-short}
use Rattle.film_frames.proofs.tables.FrameTable.make.Goals as goal

pub new-requires-clause-pieces : goal.new-requires-clause-pieces
new-requires-clause-pieces c = omega (arith, c.in_ok-pieces.ensures, all-short c.args.film.now)

pub new-requires-clause-units : goal.new-requires-clause-units
new-requires-clause-units c = omega (arith, c.len.ensures, c.args.film.now.units.ok, film-few c.args.film.now)

pub loop-number-init : goal.loop-number-init
loop-number-init c =
    let film = c.args.film.now in
    record {
      table = c.in_ok-table.ensures.table film.units.items;
      firsts = c.in_ok-table.ensures.firsts film.slice_starts.items film.units.items;
    }

pub returns : goal.returns
returns c = grind (arith, common_steps)
