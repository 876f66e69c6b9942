use Rattle.std.proofs.Common.{◌≡◌, ap, sym, ◌∙◌, Option, Some, None, subst}
use Rattle.std.specs.Prelude.{is_some}
use mathlib.Core.Option.{some-injective}
use Rattle.turnstile.specs.Passes.{AllJoined, IsWholeList, PassState}
use Rattle.turnstile.specs.PassSeats.{state_of_view}
use Rattle.turnstile.proofs.StepRules.{kept_by}
use Rattle.turnstile.proofs.LastView.{IsLast, closes}
use Rattle.turnstile.proofs.turnstile.Turnstile.close.Goals as goal
use Rattle.turnstile.proofs.turnstile.Turnstile.close.Goals.{After-take-slot}

abbrev value_or : {A : Type 0} → A → Option A → A
value_or d None = d
value_or d (Some x) = x

-- what the slot has that was taken out of the closed table
last : (g : _) (c : After-take-slot g)
    → IsLast (kept_by g.B.Kept.entries g.B.Kept.terms c.self.inside.table.shared.key.value)
    c.take_seat.result.table_id c.take_seat.result.me.0 c.take-slot.result
last g c = let seat = c.take_seat in let closed = c.close_with-closed.ensures.values.2 in
    closes (kept_by g.B.Kept.entries g.B.Kept.terms c.self.inside.table.shared.key.value)
    (record {
      state = closed.0;
      rule = closed.1.0;
      live = record { id = seat.result.id; view = seat.result.me.0; is_live = (closed.1.1, seat.ensures.free.left) };
    })
    (record {
      idle = seat.ensures.free.idle;
      first = ap (λ (p : PassState). p.number) (sym seat.ensures.old) ∙ c.requires.first;
      all = subst (λ (p : PassState). AllJoined p.splits p.joined) seat.ensures.old c.requires.all;
    })
    seat.result.table_id
    (λ value home. some-injective _ _ (sym c.take-slot.ensures.value ∙ closed.4 0 value home))

pub unwrap-requires : goal.unwrap-requires
unwrap-requires g c = ap is_some (last g (goal.at.unwrap-requires g c).After-take-slot).slot_is

pub returns : goal.returns
returns g c =
    let seat = c.take_seat in
    let it = last g (goal.at.returns g c).After-take-slot in
    let same : c.unwrap.result ≡ it.value = ap (value_or c.unwrap.result) (sym c.unwrap.ensures ∙ it.slot_is) in
    record {
      whole = subst (λ pass. IsWholeList pass (g.B.Kept.entries c.unwrap.result)) (sym seat.ensures.old)
          (subst (λ x. IsWholeList (state_of_view seat.result.table_id seat.result.me.0) (g.B.Kept.entries x))
          (sym same) it.whole);
      terms = ap g.B.Kept.terms same ∙ (it.terms_are ∙ sym (ap (λ p. p.terms) seat.ensures.old));
    }
