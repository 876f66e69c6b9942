use Rattle.std.proofs.Common.{◌≡◌, ◌+◌, ◌<◌, ◌≤◌, ℕ, sum, take, get_or, length}
use Rattle.film_frames.proofs.traces.TraceTrack.new.Given as goal

abbrev pub invariant-loop-number : goal.invariant-loop-number
invariant-loop-number l = record {
  len : length l.sizes.items ≡ length l.initial.sizes.items;
  end : l.end ≡ sum (take l.number l.initial.sizes.items);
  done : (k : ℕ) → k < l.number → get_or l.sizes.items k 0 ≡ sum (take (k + 1) l.initial.sizes.items);
  left : (k : ℕ) → l.number ≤ k → get_or l.sizes.items k 0 ≡ get_or l.initial.sizes.items k 0;
}
