-- A text in two parts.
use Rattle.std.specs.Prelude.{◌≡◌, ◌==◌, ℕ, true, not, List, ◌∷◌, ◌++◌}
use Rattle.std.specs.List.{list_all}

-- the text's part before its first byte `c`, and the part after that byte
pub record IsSplitAtFirst (c : ℕ) (text front after : List ℕ) : Type 0 where
  pub parts : text ≡ front ++ c ∷ after
  pub first : list_all (λ byte. not (byte == c)) front ≡ true
