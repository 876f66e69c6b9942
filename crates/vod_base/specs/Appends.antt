-- What an append leaves.
use Rattle.std.specs.Prelude.{ℕ, ◌≡◌, List, ◌++◌, Result, OnOk, OnErr}
use Rattle.vod_base.specs.declared.errors.NoMemory.{NoMemory}

-- after what stood before stands the beginning of a text, and no more
pub record HasPrefixOf (before text after : List ℕ) : Type 0 where
  pub front : List ℕ
  pub rest : List ℕ
  pub text_is : text ≡ front ++ rest
  pub after_is : after ≡ before ++ front

-- a text was appended; or, without memory, the beginning of it
pub record IsAppended (before text after : List ℕ) (result : Result (Unit {0}) NoMemory)
    : Type 0 where
  pub whole : OnOk result (after ≡ before ++ text)
  pub cut : OnErr result (HasPrefixOf before text after)
