use Rattle.std.proofs.Common.{◌≡◌, ◌+◌, length, refl, arith}
use Rattle.std.proofs.lemmas.Option.{slice_get_read}
use Rattle.film_frames.proofs.TableLemmas.{count-all, count-bound, count-more}
use Rattle.film_frames.specs.Pieces.{front_pieces}
use Rattle.film_frames.proofs.tables.count_pieces.Goals as goal
use Rattle.film_frames.proofs.tables.count_pieces.Goals.{After-report_count}

-- the pieces before the next unit
more : (c : After-report_count)
    → length (front_pieces c.args.film.now (c.loop-number.number + 1))
    ≡ length (front_pieces c.args.film.now c.loop-number.number)
    + (length c.refill_packets.new.packets.items + c.report_count.result)
more c =
    let film = c.args.film.now in
    let unit = c.index.result.now in
    let at = slice_get_read film.units.items (length film.units.items) c.loop-number.number unit refl
    (omega (arith, c.loop-number-test.true, c.len-number-end.ensures, film.units.ok)) c.index.ensures in
    count-more film c.loop-number.number c.report_count.ensures at (c.in_ok-refill_packets.ensures unit at).list

pub overflow_add-count-in-loop-number : goal.overflow_add-count-in-loop-number
overflow_add-count-in-loop-number c =
    omega (
      arith,
      more (goal.at.overflow_add-count-in-loop-number c).After-report_count,
      c.loop-number.invariant,
      c.len.ensures,
      c.report_count.ensures,
      c.refill_packets.new.packets.ok,
      count-bound c.args.film.now (c.loop-number.number + 1),
    )

pub loop-number-preserved : goal.loop-number-preserved
loop-number-preserved c =
    let next = more (goal.at.loop-number-preserved c).After-report_count in
    omega (arith, next, c.loop-number.invariant, c.len.ensures, c.report_count.ensures, c.refill_packets.new.packets.ok)

pub returns : goal.returns
returns c = count-all c.args.film.now c.loop-number.number c.loop-number.count
    (omega (arith, c.loop-number-test.false, c.len-number-end.ensures, c.args.film.now.units.ok))
    c.loop-number.invariant
