-- A seat at the table of a turnstile.
use Rattle.std.specs.Prelude.{◌≡◌, false, [], Option}
use Rattle.atomic_table.specs.Table.{Me}
use Rattle.atomic_table.specs.Seated.{TableId}
use Rattle.atomic_table.specs.declared.shared.Seat.{Seat}
use Rattle.turnstile.specs.declared.view.PassStage.TheVariants.{Idle}
use Rattle.turnstile.specs.declared.view.View.{View}

-- three atomic words and one slot
pub record IsSized (id : TableId) : Type 0 where
  pub words : id.words ≡ 3
  pub slots : id.slots ≡ 1

module _ {B : Type 0} where
  pub record IsSeated (id : TableId) (seat : Seat (Option B) View) : Type 0 where
    pub here : seat.table_id ≡ id
    pub sized : IsSized id

  -- a seat that made a step
  abbrev pub IsSame : Seat (Option B) View → Seat (Option B) View → Type 0
  IsSame seat next = (next.table_id ≡ seat.table_id) × (next.id ≡ seat.id)

  -- a pass that has no ticket
  pub record IsFree (me : Me (Option B) View) : Type 0 where
    pub left : me.0.spent ≡ false
    pub idle : me.0.stage ≡ Idle
    pub empty : me.1 ≡ []
