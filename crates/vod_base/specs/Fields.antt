-- A number and the label before it.
use Rattle.std.specs.Prelude.{ℕ, List, ◌++◌, decimal}

-- the label, and the number in decimal, without leading zeros
abbrev pub field : List ℕ → ℕ → List ℕ
field label number = label ++ decimal number
