use Rattle.std.proofs.Common.{take}
use Rattle.film_frames.specs.Pieces.{pieces_of}
use Rattle.film_frames.specs.Tables.{AreFirsts, IsTable}
use Rattle.film_frames.proofs.tables.FrameTable.make.Given as goal

abbrev pub invariant-loop-number : goal.invariant-loop-number
invariant-loop-number l = record {
  table : IsTable l.film.units.items (pieces_of l.film.slice_starts.items (take l.number l.film.units.items)) l.table;
  firsts : AreFirsts l.film.slice_starts.items l.film.units.items l.number l.table.firsts.items;
}
