-- Which pictures a client has used, in the words of its player: the first n of them.
use Rattle.std.specs.Prelude.{ℕ, ◌+◌, ◌<◌, ◌≤◌, List, length, sum, take}
use Rattle.wire_curve.specs.declared.film.Timing.{Timing}
use Rattle.wire_curve.specs.FilmCurves.{due_slot}

-- the first n pictures are those that are used by the end of slot t
pub record AreUsedBy (sizes : List ℕ) (timing : Timing) (n t : ℕ) : Type 0 where
  pub within : n ≤ length sizes
  pub used : (k : ℕ) → k < n → due_slot timing k ≤ t
  pub unused : (k : ℕ) → n ≤ k → k < length sizes → t < due_slot timing k

-- they are those that are used before slot t begins
pub record AreUsedBefore (sizes : List ℕ) (timing : Timing) (n t : ℕ) : Type 0 where
  pub within : n ≤ length sizes
  pub used : (k : ℕ) → k < n → due_slot timing k < t
  pub unused : (k : ℕ) → n ≤ k → k < length sizes → t ≤ due_slot timing k

-- the bytes played of earlier plays and the first n pictures
abbrev pub played_to : List ℕ → Timing → ℕ → ℕ
played_to sizes timing n = timing.played + sum (take n sizes)
