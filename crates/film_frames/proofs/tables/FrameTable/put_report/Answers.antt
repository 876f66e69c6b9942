use Rattle.std.proofs.Common.{◌≡◌, List, ◌++◌, length, refl, subst, arith}
use Rattle.std.specs.Result.{OnOk}
use Rattle.std.proofs.lemmas.Option.{slice_get_read}
use Rattle.mpeg_scan.specs.declared.units.Unit.{Unit as PictureUnit}
use Rattle.film_frames.specs.declared.pieces.Piece.{Piece}
use Rattle.film_frames.specs.Pieces.{front_pieces, unit_reports}
use Rattle.film_frames.specs.Tables.{IsTable}
use Rattle.film_frames.proofs.FilmPieceLemmas.{film-few}
use Rattle.film_frames.proofs.FirstUnitLemmas.{front-bound, reports-none, reports-some, room}
use Rattle.film_frames.proofs.tables.FrameTable.put_report.Goals as goal

pub overflow_cast-number : goal.overflow_cast-number
overflow_cast-number c = omega (arith, film-few c.args.film.now, c.requires.within)

pub put-requires-clause-room : goal.put-requires-clause-room
put-requires-clause-room c =
    let film = c.args.film.now in
    room film.units.items _ c.args.self.now c.requires.table (front-bound film c.args.number)

pub returns-then-unit-clause-table : goal.returns-then-unit-clause-table
returns-then-unit-clause-table c = λ unit at.
    let film = c.args.film.now in
    let units = film.units.items in
    let here = c.index-unit.result.now in
    let found = slice_get_read units (length units) c.args.number here refl c.requires.within c.index-unit.ensures in
    let same : here ≡ unit = cc in
    let P : List Piece → Type 0 =
    λ l. OnOk c.put.result (IsTable units (front_pieces film c.args.number ++ l) c.put.new.self) in
    let Q : PictureUnit → Type 0 = λ u. P (unit_reports u) in
    subst Q same
    (subst P (reports-some here c.if-unit.true)
    (c.put.ensures.table film.bytes.items units (front_pieces film c.args.number) tt found c.requires.table))

pub returns-clause-table : goal.returns-clause-table
returns-clause-table c = λ unit at.
    let film = c.args.film.now in
    let units = film.units.items in
    let here = c.index-unit.result.now in
    let found = slice_get_read units (length units) c.args.number here refl c.requires.within c.index-unit.ensures in
    let same : here ≡ unit = cc in
    let P : List Piece → Type 0 = λ l. IsTable units l c.args.self.now in
    let Q : PictureUnit → Type 0 = λ u. P (front_pieces film c.args.number ++ unit_reports u) in
    subst Q same (subst P (reports-none film c.args.number here c.if-unit.false) c.requires.table)
