use Rattle.std.proofs.Common.{◌+◌, arith}
use Rattle.std.proofs.lemmas.Option.{slice_get_within}
use Rattle.film_frames.proofs.FilmPieceLemmas.{unit-laid}
use Rattle.film_frames.proofs.PieceLemmas.{unit-bound}
use Rattle.film_frames.proofs.FirstUnitLemmas.{front-le}
use Rattle.film_frames.proofs.TableLemmas.{front-count, front-place, unit-place}
use Rattle.film_frames.proofs.tables.FrameTable.wire_size.Goals as goal

pub index-requires-3 : goal.index-requires-3
index-requires-3 c =
    let h = c.requires in
    let at = front-count (c.args.unit + 1) h.table_is (omega (arith, h.within)) c.index-2.ensures in
    omega (arith, at.0, at.1, c.args.self.now.places.ok)

pub index-requires-4 : goal.index-requires-4
index-requires-4 c =
    let h = c.requires in
    let at = front-count c.args.unit h.table_is (omega (arith, h.within)) c.index.ensures in
    omega (arith, at.0, at.1, c.args.self.now.places.ok)

pub overflow_sub-result : goal.overflow_sub-result
overflow_sub-result c =
    let h = c.requires in
    let from = front-place c.args.unit h.table_is (omega (arith, h.within)) c.index.ensures c.index-4.ensures in
    let to = front-place (c.args.unit + 1) h.table_is (omega (arith, h.within)) c.index-2.ensures c.index-3.ensures in
    omega (arith, from, to, front-le h.film c.args.unit (c.args.unit + 1) (omega arith))

pub returns-clause-size : goal.returns-clause-size
returns-clause-size c = λ film is unit at.
    let within = slice_get_within film.units.items c.args.unit unit at in
    let from = front-place c.args.unit is (omega (arith, within)) c.index.ensures c.index-4.ensures in
    let to = front-place (c.args.unit + 1) is (omega (arith, within)) c.index-2.ensures c.index-3.ensures in
    omega (arith, from, to, unit-place film c.args.unit unit at)

pub returns-clause-bound : goal.returns-clause-bound
returns-clause-bound c = λ film is unit at.
    omega (
      arith,
      returns-clause-size c film is unit at,
      unit-bound film.slice_starts.items unit (unit-laid film c.args.unit unit at),
    )
