use Rattle.std.proofs.Common.{List, length, false, refl, subst, arith, ◌∙◌}
use Rattle.std.proofs.lemmas.Option.{slice_get_read}
use Rattle.rtp_pack.specs.declared.payloads.Packet.{Packet}
use Rattle.film_frames.specs.declared.pieces.Piece.{Piece}
use Rattle.film_frames.specs.Tables.{IsTable}
use Rattle.film_frames.proofs.FilmPieceLemmas.{film-few}
use Rattle.film_frames.proofs.FirstUnitLemmas.{PackedUnit, before_packet, packet-sound, packets-all, packets-begun}
use Rattle.film_frames.proofs.FirstUnitLemmas.{packets-bound, packets-more, room}
use Rattle.film_frames.proofs.tables.FrameTable.put_frames.Goals as goal
use Rattle.film_frames.proofs.tables.FrameTable.put_frames.Goals.{After-index-unit}

none : Packet
none = record { from = 0; to = 0; marker = false; begin = false; end = false; sequence_header = false }

-- the unit with its packets
abbrev unit-in : After-index-unit → PackedUnit
unit-in c =
    let units = c.args.film.now.units.items in
    let unit = c.index-unit.result.now in
    let at = slice_get_read units (length units) c.args.number unit refl c.requires.within c.index-unit.ensures in
    record {
      film = c.args.film.now;
      number = c.args.number;
      unit = unit;
      packets = c.args.packets.now;
      at = at;
      is = c.requires.packets unit at;
    }

pub overflow_cast-number : goal.overflow_cast-number
overflow_cast-number c = omega (arith, film-few c.args.film.now, c.requires.within)

pub loop-packet-init : goal.loop-packet-init
loop-packet-init c =
    let film = c.args.film.now in
    let unit = c.index-unit.result.now in
    let at = slice_get_read film.units.items (length film.units.items) c.args.number unit refl c.requires.within
    c.index-unit.ensures in
    let P : List Piece → Type 0 = λ l. IsTable film.units.items l c.args.self.now in
    record {
      table = subst P (packets-begun film c.args.number unit c.args.packets.now) (c.requires.table unit at);
      firsts = refl;
    }

pub put-requires-clause-room : goal.put-requires-clause-room
put-requires-clause-room c =
    let film = c.args.film.now in
    let u = unit-in (goal.at.put-requires-clause-room c).After-index-unit in
    room film.units.items _ c.loop-packet.self c.loop-packet.invariant.table
    (packets-bound u c.loop-packet.packet-index)

pub put-requires-clause-sound : goal.put-requires-clause-sound
unfolding none
put-requires-clause-sound c =
    let film = c.args.film.now in
    let u = unit-in (goal.at.put-requires-clause-sound c).After-index-unit in
    (film.bytes.items, packet-sound u c.loop-packet.packet-index none c.loop-packet-test.true)

pub loop-packet-preserved : goal.loop-packet-preserved
unfolding none
loop-packet-preserved c =
    let film = c.args.film.now in
    let i = c.loop-packet.packet-index in
    let u = unit-in (goal.at.loop-packet-preserved c).After-index-unit in
    let sound = packet-sound u i none c.loop-packet-test.true in
    let P : List Piece → Type 0 = λ l. IsTable film.units.items l c.put.new.self in
    let table = c.in_ok-put.ensures.table film.bytes.items film.units.items
    (before_packet film c.args.number u.unit c.args.packets.now i) sound u.at c.loop-packet.invariant.table in
    record {
      table = subst P (packets-more u i none c.loop-packet-test.true) table;
      firsts = c.in_ok-put.ensures.firsts ∙ c.loop-packet.invariant.firsts;
    }

pub returns-clause-table : goal.returns-clause-table
returns-clause-table c =
    let film = c.args.film.now in
    let u = unit-in (goal.at.returns-clause-table c).After-index-unit in
    let P : List Piece → Type 0 = λ l. IsTable film.units.items l c.loop-packet.self in
    subst P (packets-all u c.loop-packet.packet-index c.loop-packet-test.false) c.loop-packet.invariant.table
