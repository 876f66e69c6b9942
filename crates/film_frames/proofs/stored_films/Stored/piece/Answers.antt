use Rattle.std.proofs.Common.{◌≡◌, ◌-◌, sym, ap, ◌∙◌, Some, arith}
use Rattle.std.proofs.lemmas.Option.{get_or_from_slice_get, slice_get_within}
use Rattle.mpeg_scan.specs.declared.units.Unit.{Unit as PictureUnit}
use Rattle.film_frames.specs.declared.pieces.Piece.{Piece}
use Rattle.film_frames.specs.Pieces.{from_of, unit_of, wire_of}
use Rattle.film_frames.specs.Tables.{row_piece}
use Rattle.film_frames.proofs.TableLemmas.{film-short, read-back, row-within, wire-least}
use Rattle.film_frames.proofs.stored_films.Stored.piece.Goals as goal

pub overflow_sub-size : goal.overflow_sub-size
overflow_sub-size c =
    let film = c.args.self.now.film in
    let back = read-back c.args.self.now.table_is c.requires c.row-row.ensures c.place-2.ensures c.place.ensures in
    omega (arith, back.size)

pub index-requires : goal.index-requires
index-requires c =
    let film = c.args.self.now.film in
    let back = read-back c.args.self.now.table_is c.requires c.row-row.ensures c.place-2.ensures c.place.ensures in
    omega (
      arith,
      slice_get_within film.units.items c.row-row.result.unit (unit_of back.piece) back.is_row.unit,
      c.unit.ensures,
      film.units.ok,
    )

pub piece-requires-clause-least : goal.piece-requires-clause-least
piece-requires-clause-least c =
    let film = c.args.self.now.film in
    let back = read-back c.args.self.now.table_is c.requires c.row-row.ensures c.place-2.ensures c.place.ensures in
    omega (arith, back.size, wire-least film.bytes.items back.piece back.sound)

pub piece-requires-clause-most : goal.piece-requires-clause-most
piece-requires-clause-most c = λ frame.
    let film = c.args.self.now.film in
    let back = read-back c.args.self.now.table_is c.requires c.row-row.ensures c.place-2.ensures c.place.ensures in
    omega (
      arith,
      back.size,
      film-short film,
      c.payload_from-from.ensures back.piece back.at,
      row-within film c.row-row.result back.piece back.is_row back.sound frame,
    )

pub returns : goal.returns
returns c =
    let film = c.args.self.now.film in
    let row = c.row-row.result in
    let back = read-back c.args.self.now.table_is c.requires c.row-row.ensures c.place-2.ensures c.place.ensures in
    let unit : c.index.result.now ≡ unit_of back.piece =
    let found =
    get_or_from_slice_get film.units.items row.unit (unit_of back.piece) c.index.result.now back.is_row.unit in
    let read = c.index.ensures in
    let number = c.unit.ensures in cc in
    let size : c.place.result - c.place-2.result ≡ wire_of back.piece = omega (arith, back.size) in
    let same : c.piece.result ≡ back.piece =
    c.piece.ensures
    ∙ ap (λ (u : PictureUnit). row_piece row u c.payload_from-from.result (c.place.result - c.place-2.result)) unit
    ∙ ap (λ n. row_piece row (unit_of back.piece) n (c.place.result - c.place-2.result))
    (c.payload_from-from.ensures back.piece back.at)
    ∙ ap (λ n. row_piece row (unit_of back.piece) (from_of back.piece) n) size
    ∙ back.is_row.piece_is in
    back.at ∙ ap (λ (p : Piece). Some p) (sym same)
