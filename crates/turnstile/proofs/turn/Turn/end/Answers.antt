use Rattle.std.proofs.Common.{◌≡◌, ℕ, List, Option, Some, None, ap, ◌∙◌, ◌∷◌}
use Rattle.atomic_table.specs.Table.{Me, rest}
use Rattle.turnstile.specs.declared.view.View.{View}
use Rattle.turnstile.specs.Steps.{IsTurn}
use Rattle.turnstile.proofs.turn.Turn.end.Goals as goal

-- the pass has the lock still once the value is back in the slot
put_back : {B : Type 0} {me next : Me (Option B) View} (value : B) → next ≡ (me.0, (0, Some value) ∷ rest me.1)
    → IsTurn me None → IsTurn next (Some value)
put_back {B} value put turn = record {
  number = turn.number;
  stage = ap (λ (m : Me (Option B) View). m.0.stage) put ∙ turn.stage;
  left = ap (λ (m : Me (Option B) View). m.0.spent) put ∙ turn.left;
  held = ap (λ (m : Me (Option B) View). m.1) put
      ∙ ap (λ (cells : List (ℕ × Option B)). (0, Some value) ∷ rest cells) turn.held;
}

pub count_if_grown-requires-clause-turn : goal.count_if_grown-requires-clause-turn
count_if_grown-requires-clause-turn g c =
    (c.self.inside.value, put_back c.self.inside.value c.exchange-empty.ensures.3 c.self.invariant.turn)
