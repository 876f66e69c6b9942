-- What a guard has once its value was lent.
use Rattle.std.specs.Borrow.{Fml, Lends, MutBor}
use denote.RattleType.{RattleType}
use Rattle.turnstile.specs.Passes.{TurnState}
use Rattle.turnstile.specs.declared.kept_value.Kept.{Ghosts}
use Rattle.turnstile.specs.contracts.turn.Turn.{the_row}

abbrev pub turn_with : {B : Type 0} → TurnState B → B → TurnState B
turn_with turn value = record turn { value = value }

-- the guard ends with the last value that r refers to
abbrev pub LendsValue : (B : RattleType) → (kept : Ghosts B.Denot) → MutBor (TurnState B.Denot) →
    MutBor B.Denot → Fml
LendsValue B kept turn r = Lends (the_row B kept) B turn r (turn_with turn.now)
