-- Texts that are appended one after the other.
use Rattle.std.proofs.Common.{◌≡◌, ℕ, List, ◌++◌, Result, Ok, Err, OnOk}
use Rattle.std.proofs.lemmas.List.{append_assoc}
use Rattle.vod_base.specs.declared.errors.NoMemory.{NoMemory}
use Rattle.vod_base.proofs.AppendLemmas.{both}

pub ruleset joins = (append_assoc)

-- what was appended first
pub record TextBefore (mid : List ℕ) : Type 0 where
  pub before : List ℕ
  pub text : List ℕ
  pub whole : mid ≡ before ++ text

-- what was appended last is handed on
pub then-more : {mid : List ℕ} (r : Result (Unit {0}) NoMemory) (first : TextBefore mid) (next after : List ℕ)
    → OnOk r (after ≡ mid ++ next) → OnOk r (after ≡ first.before ++ (first.text ++ next))
then-more (Ok done) first next after more = both first.before first.text next first.whole more
then-more (Err e) first next after more = tt
