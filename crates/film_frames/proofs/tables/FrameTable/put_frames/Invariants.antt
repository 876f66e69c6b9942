use Rattle.std.proofs.Common.{◌≡◌}
use Rattle.film_frames.specs.Tables.{IsTable}
use Rattle.film_frames.proofs.FirstUnitLemmas.{before_packet}
use Rattle.film_frames.proofs.tables.FrameTable.put_frames.Given as goal

abbrev pub invariant-loop-packet : goal.invariant-loop-packet
invariant-loop-packet l = record {
  table : IsTable l.film.units.items (before_packet l.film l.number l.unit l.packets l.packet-index) l.self;
  firsts : l.self.firsts.items ≡ l.fn.self.firsts.items;
}
