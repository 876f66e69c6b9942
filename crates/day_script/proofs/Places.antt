-- Places of a list.
use Rattle.std.proofs.Common.{◌<◌, ℕ, List, length}

-- the place of an item of a list
pub record Place {A : Type 0} (items : List A) : Type 0 where
  pub index : ℕ
  pub none : A
  pub inside : index < length items
