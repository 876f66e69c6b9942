-- How a pass is kept: its view rests in it, except while it holds the lock.
use Rattle.std.specs.Prelude.{◌≡◌, ℕ, Bool, true, false, List, [], ◌∷◌}
use Rattle.turnstile.specs.declared.pass.Pass.TheInside.{Inside}
use Rattle.turnstile.specs.declared.view.PassStage.TheVariants.{Idle}
use Rattle.turnstile.specs.declared.view.View.{View}
use Rattle.admission.specs.Makers.{entries_by}
use Rattle.turnstile.specs.Passes.{PassState}
use Rattle.turnstile.specs.Steps.{spent_view}
use Rattle.turnstile.specs.PassSeats.{state_of_view}

abbrev pub view_at_rest : List View → View
view_at_rest [] = spent_view
view_at_rest (v ∷ rest) = v

abbrev pub is_away : List View → Bool
is_away [] = true
is_away (v ∷ rest) = false

abbrev pub pass_state : Inside → PassState
pass_state p = record (state_of_view p.badge.table_id (view_at_rest p.badge.views)) {
  has_turn = is_away p.badge.views;
  number = p.number;
  splits = p.splits;
}

pub record IsResting (v : View) (number splits : ℕ) : Type 0 where
  pub left : v.spent ≡ false
  pub idle : v.stage ≡ Idle
  pub number_is : v.number ≡ number
  pub splits_is : v.splits ≡ splits
  pub own : v.mine ≡ entries_by v.number v.seen

abbrev pub Rests : List View → ℕ → ℕ → Type 0
Rests [] number splits = Unit {0}
Rests (v ∷ []) number splits = IsResting v number splits
Rests (v ∷ w ∷ rest) number splits = ⊥

abbrev pub IsPass : Inside → Type 0
IsPass p = Rests p.badge.views p.number p.splits
