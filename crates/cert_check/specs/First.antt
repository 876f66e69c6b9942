-- The first place at which something holds.
use Rattle.std.specs.Prelude.{ℕ, ◌<◌}

pub record IsFirst (P : ℕ → Type 0) (i : ℕ) : Type 0 where
  pub here : P i
  pub not_before : (j : ℕ) → j < i → ¬ P j
