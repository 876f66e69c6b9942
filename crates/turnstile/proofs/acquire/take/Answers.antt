use Rattle.std.proofs.Common.{ap, sym, ◌∙◌, ℕ, List, [], ◌∷◌, Some}
use Rattle.std.specs.Prelude.{is_some}
use Rattle.atomic_table.specs.Table.{rest}
use Rattle.turnstile.proofs.acquire.take.Goals as goal

-- the value of the slot that was taken last
abbrev first_or : {A : Type 0} → A → List (ℕ × A) → A
first_or d [] = d
first_or d (x ∷ xs) = x.1

pub exchange-slot-requires : goal.exchange-slot-requires
exchange-slot-requires g c = let took = c.wait.ensures.took in (
  c.wait.ensures.same.0 ∙ (c.draw-ticket.ensures.same.0 ∙ c.requires.seat.here),
  (Some took.value, took.slot ∙ ap (λ cs. (0, Some took.value) ∷ rest cs) (sym took.slot)),
)

pub unwrap-requires : goal.unwrap-requires
unwrap-requires g c =
    let took = c.wait.ensures.took in
    ap is_some (ap (first_or c.exchange-slot.result) (sym c.exchange-slot.ensures.2 ∙ took.slot))
