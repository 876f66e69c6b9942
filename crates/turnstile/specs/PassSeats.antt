-- A pass and its seat, while it rests and while it holds the lock.
use Rattle.std.specs.Prelude.{◌≡◌, ℕ, Option, None, length}
use Rattle.atomic_table.specs.Seated.{TableId}
use Rattle.atomic_table.specs.declared.shared.Seat.{Seat}
use Rattle.turnstile.specs.declared.view.View.{View}
use Rattle.admission.specs.Makers.{entries_by}
use Rattle.turnstile.specs.Passes.{PassState, first_pass}
use Rattle.turnstile.specs.Steps.{IsTurn}

-- a pass that rests with this view
abbrev pub state_of_view : TableId → View → PassState
state_of_view id v = record (first_pass (record { id = id; terms = v.terms })) {
  number = v.number;
  seen = v.seen;
  mine = v.mine;
  splits = v.splits;
  joined = v.joined;
}

-- the view of a pass of this number, from which so many were split
pub record IsViewOf (number splits : ℕ) (v : View) : Type 0 where
  pub number_is : v.number ≡ number
  pub splits_is : v.splits ≡ splits
  pub own : v.mine ≡ entries_by v.number v.seen

-- the pass holds the lock, the slot is empty, and so long was the list
pub record IsTurnTaken {B : Type 0} (seat : Seat (Option B) View) (before : ℕ) : Type 0 where
  pub turn : IsTurn seat.me None
  pub before_is : before ≡ length seat.me.0.seen
  pub own : seat.me.0.mine ≡ entries_by seat.me.0.number seat.me.0.seen
