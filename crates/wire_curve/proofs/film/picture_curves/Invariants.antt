use Rattle.std.proofs.Common.{◌≡◌, ℕ, ◌+◌, ◌<◌, ◌≤◌, length, take, slice_index, sum, vec_capacity}
use Rattle.wire_curve.specs.FilmCurves.{low_at, up_at, used_before}
use Rattle.wire_curve.proofs.OwnSlotLemmas.{AreValues}
use Rattle.wire_curve.proofs.film.picture_curves.Given as goal

abbrev pub invariant-loop : goal.invariant-loop
invariant-loop l = record {
  low_room : l.timing.delay + length l.sizes ≤ vec_capacity l.low;
  up_room : l.timing.delay + length l.sizes ≤ vec_capacity l.up;
  low : AreValues (low_at l.sizes l.timing) l.counter l.low.items;
  up : AreValues (up_at l.sizes l.timing) l.counter l.up.items;
}

abbrev pub invariant-loop-size : goal.invariant-loop-size
invariant-loop-size l = record {
  low_room : l.timing.delay + length l.sizes ≤ vec_capacity l.low;
  up_room : l.timing.delay + length l.sizes ≤ vec_capacity l.up;
  used : l.used ≡ used_before l.sizes l.timing (l.timing.delay + l.size-index);
  small : l.used ≡ l.timing.played + sum (take l.size-index l.sizes);
  fit : (k : ℕ) → k < l.size-index → slice_index l.sizes k ≤ l.timing.buffer;
  low : AreValues (low_at l.sizes l.timing) (l.timing.delay + l.size-index) l.low.items;
  up : AreValues (up_at l.sizes l.timing) (l.timing.delay + l.size-index) l.up.items;
}
