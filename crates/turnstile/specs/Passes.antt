-- What contracts see of a turnstile and of its passes.
use Rattle.std.specs.Prelude.{◌≡◌, ◌⊎◌, ℕ, ◌+◌, ◌<◌, ◌≤◌, Bool, false, if◌then◌else◌, ltb, List, []}
use Rattle.std.specs.Prelude.{◌∷◌, ◌++◌, length, slice_index_or}
use mathlib.Core.List.{IsPrefix}
use Rattle.atomic_table.specs.Seated.{TableId}
use Rattle.admission.specs.declared.entries.Entry.{Entry}
use Rattle.turnstile.specs.declared.view.Joined.{Joined}
use Rattle.admission.specs.Makers.{PlacedEntry, entries_by}
use Rattle.turnstile.specs.declared.view.Terms.{Terms}

-- which turnstile it is, and what stays of the kept value
pub record TurnstileState : Type 0 where
  pub id : TableId
  pub terms : Terms

-- a pass: the turnstile that made it, whether it holds the lock, its number, what stays of the kept
-- value, the list as it has seen it, its own entries in it, how many passes were split from it, and
-- what those that were joined to it had made
pub record PassState : Type 0 where
  pub id : TableId
  pub has_turn : Bool
  pub number : ℕ
  pub terms : Terms
  pub seen : List Entry
  pub mine : List PlacedEntry
  pub splits : ℕ
  pub joined : List Joined

-- a pass of this number was joined
abbrev pub IsJoined : List Joined → ℕ → Type 0
IsJoined [] number = ⊥
IsJoined (j ∷ rest) number = (j.number ≡ number) ⊎ IsJoined rest number

-- the first pass of a turnstile
abbrev pub first_pass : TurnstileState → PassState
first_pass turnstile = record {
  id = turnstile.id;
  has_turn = false;
  number = 0;
  terms = turnstile.terms;
  seen = [];
  mine = [];
  splits = 0;
  joined = [];
}

-- a pass after one more was split from it
abbrev pub after_split : PassState → PassState
after_split pass = record pass { splits = pass.splits + 1 }

-- the pass that was split from it
abbrev pub new_pass : PassState → PassState
new_pass pass = record (first_pass (record { id = pass.id; terms = pass.terms })) {
  number = pass.splits + 1;
  seen = pass.seen;
}

-- the longer of two lists
abbrev pub longer_list : List Entry → List Entry → List Entry
longer_list xs ys = if (ltb (length xs) (length ys)) then ys else xs

-- a pass after another was joined to it
abbrev pub after_join : PassState → PassState → PassState
after_join pass other = record pass {
  seen = longer_list pass.seen other.seen;
  joined = pass.joined ++ record { number = other.number; mine = other.mine } ∷ other.joined;
}

-- every pass that was split from the first one was joined
pub record AllJoined (splits : ℕ) (joined : List Joined) : Type 0 where
  pub each : (number : ℕ) → 0 < number → number ≤ splits → IsJoined joined number

-- the list is as it was seen, or has one more entry, of this maker
abbrev pub MayLeave : List Entry → ℕ → List Entry → Type 0
MayLeave seen maker list = (list ≡ seen)
    ⊎ ((e : Entry) × (list ≡ seen ++ e ∷ []) × (e.maker ≡ maker))

-- a guard: the pass as it was when it took the lock, and the value
pub record TurnState (B : Type 0) : Type 0 where
  pub pass : PassState
  pub value : B

-- The list once all passes are back in the first one: it begins with what that one has seen, and
-- each entry in it is of the first pass or of one that was joined, as they know it.
pub record IsWholeList (pass : PassState) (list : List Entry) : Type 0 where
  pub seen : IsPrefix pass.seen list
  pub mine : pass.mine ≡ entries_by pass.number list
  pub joined : (i : ℕ) (none : Joined) → i < length pass.joined →
      (slice_index_or pass.joined i none).mine ≡
      entries_by (slice_index_or pass.joined i none).number list
  pub others : (maker : ℕ) → pass.splits < maker → entries_by maker list ≡ []
