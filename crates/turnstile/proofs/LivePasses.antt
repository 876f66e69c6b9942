-- What a live pass is to the lock, and the facts that all live passes share.
use Rattle.std.proofs.Common.{◌≡◌, ◌≢◌, ℕ, zero, suc, ◌+◌, ◌<◌, ◌≤◌, ◌⊎◌, List, [], ◌∷◌, ◌++◌, length, set, Option}
use Rattle.std.proofs.Common.{Bool, false, ap, sym, ◌∙◌, subst, ⊎_elim, inl, inr, refl, arith, cond}
use mathlib.Core.Logic.{dite}
use mathlib.Core.Option.{some, some-injective, some-ne-none}
use native.Mathlib.Decide.{ℕ_discrete}
use lib.ListN.{get_elem?}
use Rattle.atomic_table.specs.Table.{State}
use Rattle.atomic_table.proofs.Lists.{at_set, set_else, set_here}
use Rattle.admission.specs.declared.entries.Entry.{Entry}
use Rattle.turnstile.specs.declared.view.Joined.{Joined}
use Rattle.turnstile.specs.declared.view.PassStage.{PassStage}
use Rattle.turnstile.specs.declared.view.PassStage.TheVariants.{Idle, Waits, Holds}
use Rattle.turnstile.specs.declared.view.View.{View}
use Rattle.turnstile.specs.TurnRule.{pass_count, ticket_count, has_ticket, Apart, IsLive, IsTicket, InTurn, HasFirst}
use Rattle.turnstile.specs.TurnRule.{IsAway}

pub lives : (v : View) → v.spent ≡ false → pass_count v ≡ 1
lives v e = ap (λ (b : Bool). cond b 0 1) e

pub tickets_of : (v : View) {st : PassStage} → v.spent ≡ false → v.stage ≡ st → ticket_count v ≡ has_ticket st
tickets_of v e is = ap (λ (b : Bool). cond b 0 (has_ticket v.stage)) e ∙ ap has_ticket is

abbrev pub IsHolding : PassStage → Type 0
IsHolding Idle = ⊥
IsHolding (Waits t) = ⊥
IsHolding (Holds t) = Unit {0}

abbrev pub ticket_or : PassStage → ℕ
ticket_or Idle = 0
ticket_or (Waits t) = t
ticket_or (Holds t) = t

abbrev pub Free : PassStage → Type 0
Free st = (t : ℕ) → st ≡ Holds t → ⊥

pub idle_free : (st : PassStage) → st ≡ Idle → Free st
idle_free st is t e = subst IsHolding (sym e ∙ is) tt

pub waits_free : (st : PassStage) (u : ℕ) → st ≡ Waits u → Free st
waits_free st u is t e = subst IsHolding (sym e ∙ is) tt

pub ticket_low : (served drawn t : ℕ) (st : PassStage) → InTurn served drawn st → IsTicket st t
    → (served ≤ t) × (t < drawn)
ticket_low served drawn t Idle turn is = absurd is
ticket_low served drawn t (Waits u) turn is = (omega (arith, turn.0, is), omega (arith, turn.1, is))
ticket_low served drawn t (Holds u) turn is = (omega (arith, turn.0, is), omega (arith, turn.1, is))

pub turn_more : (served drawn : ℕ) (st : PassStage) → InTurn served drawn st → InTurn served (drawn + 1) st
turn_more served drawn Idle turn = tt
turn_more served drawn (Waits u) turn = (turn.0, omega (arith, turn.1))
turn_more served drawn (Holds u) turn = (turn.0, omega (arith, turn.1))

pub turn_next : (served drawn : ℕ) (st : PassStage) → InTurn served drawn st → (IsTicket st served → ⊥)
    → InTurn (served + 1) drawn st
turn_next served drawn Idle turn not_now = tt
turn_next served drawn (Waits u) turn not_now =
    dite (ℕ_discrete u served) (λ e. absurd (not_now e)) (λ (ne : u ≢ served). (let a = turn.0 in omega arith, turn.1))
turn_next served drawn (Holds u) turn not_now = absurd (not_now turn.0)

pub at_inside : {A : Type 0} (l : List A) (i : ℕ) (a : A) → get_elem? l i ≡ some a → i < length l
at_inside [] i a e = absurd (some-ne-none a (sym e))
at_inside (x ∷ xs) zero a e = omega arith
at_inside (x ∷ xs) (suc i) a e = let h = at_inside xs i a e in omega arith

at_snoc : {A : Type 0} (l : List A) (a b : A) (j : ℕ) → get_elem? (l ++ a ∷ []) j ≡ some b
    → (get_elem? l j ≡ some b) ⊎ ((j ≡ length l) × (a ≡ b))
at_snoc [] a b zero e = inr (refl, some-injective a b e)
at_snoc [] a b (suc j) e = absurd (some-ne-none b (sym e))
at_snoc (x ∷ xs) a b zero e = inl e
at_snoc (x ∷ xs) a b (suc j) e =
    ⊎_elim (λ h. inl h) (λ (t : (j ≡ length xs) × (a ≡ b)). inr (let n = t.0 in omega arith, t.1)) (at_snoc xs a b j e)

-- a live pass of these
pub record Live (views : List View) : Type 0 where
  pub id : ℕ
  pub view : View
  pub is_live : IsLive views id view

-- at one place is one pass
pub one_at : {views : List View} (p q : Live views) → q.id ≡ p.id → p.view ≡ q.view
one_at {views} p q e = some-injective p.view q.view (sym p.is_live.0 ∙ (ap (get_elem? views) (sym e) ∙ q.is_live.0))

-- a live pass that has the lock with its ticket
pub record Holder (views : List View) : Type 0 where
  pub live : Live views
  pub open live use *
  pub ticket : ℕ
  pub holds : view.stage ≡ Holds ticket

-- the pass that is away with the value
abbrev pub holder_of : {B : Type 0} {log : List Entry} {s : State (Option B) View} → IsAway log s → Holder s.views
holder_of a = record {
  live = record { id = a.place; view = a.holder; is_live = a.live };
  ticket = a.ticket;
  holds = a.holds;
}

-- who doesn't have the lock is another
pub not_holder : {views : List View} (holder : Holder views) (p : Live views) → Free p.view.stage → holder.id ≢ p.id
not_holder holder p free e = free holder.ticket (ap (λ (u : View). u.stage) (one_at p holder.live e) ∙ holder.holds)

-- a fact of each live pass
abbrev pub EachLive : (ℕ → View → Type 0) → List View → Type 0
EachLive P views = (j : ℕ) (u : View) → IsLive views j u → P j u

-- it stays when one of them has changed, and has it too if it is live
pub live_set : (P : ℕ → View → Type 0) (views : List View) (id : ℕ) (w : View) → (w.spent ≡ false → P id w)
    → ((j : ℕ) (u : View) → j ≢ id → IsLive views j u → P j u)
    → EachLive P (set views id w)
live_set P views id w mine others j u live = ⊎_elim
    (λ (t : (j ≡ id) × (w ≡ u)). subst (λ (x : ℕ × View). P x.0 x.1) (λ i. (sym t.0 i, t.1 i))
    (mine (ap (λ (v : View). v.spent) t.1 ∙ live.1)))
    (λ (t : (j ≢ id) × (get_elem? views j ≡ some u)). others j u t.0 (t.1, live.1))
    (at_set views id j w u live.0)

-- it stays when one more has come and has it too
pub live_push : (P : ℕ → View → Type 0) (views : List View) (x : View) → P (length views) x
    → EachLive P views → EachLive P (views ++ x ∷ [])
live_push P views x mine others j u live = ⊎_elim
    (λ (t : get_elem? views j ≡ some u). others j u (t, live.1))
    (λ (t : (j ≡ length views) × (x ≡ u)). subst (λ (y : ℕ × View). P y.0 y.1) (λ i. (sym t.0 i, t.1 i)) mine)
    (at_snoc views x u j live.0)

-- the pass that has changed is there, if it is live still
abbrev pub live_here : {views : List View} (p : Live views) (w : View) → w.spent ≡ false → Live (set views p.id w)
live_here {views} p w left = record {
  id = p.id;
  view = w;
  is_live = (set_here views p.id w (at_inside views p.id p.view p.is_live.0), left);
}

-- and so is another
abbrev pub live_else : {views : List View} (o : Live views) (id : ℕ) (w : View) → o.id ≢ id → Live (set views id w)
live_else {views} o id w other = record {
  id = o.id;
  view = o.view;
  is_live = (set_else views id o.id w other ∙ o.is_live.0, o.is_live.1);
}

-- a pass of the number 0 is there, also when one has changed, which keeps this number
pub first_set : {views : List View} (p : Live views) (w : View)
    → (p.view.number ≡ 0 → (w.spent ≡ false) × (w.number ≡ 0)) → HasFirst views → HasFirst (set views p.id w)
first_set {views} p w keeps first = dite (ℕ_discrete first.place p.id)
    (λ (here : first.place ≡ p.id).
    let w_first = keeps (ap (λ (u : View). u.number) (one_at p f here) ∙ first.number_is) in
    first_at (live_here p w w_first.0) w_first.1)
    (λ (other : first.place ≢ p.id). first_at (live_else f p.id w other) first.number_is)
  where
    f : Live views
    f = record { id = first.place; view = first.view; is_live = first.live }

    first_at : {after : List View} (q : Live after) → q.view.number ≡ 0 → HasFirst after
    first_at q first = record { place = q.id; view = q.view; live = q.is_live; number_is = first }

-- each of two passes stands apart from the other
abbrev pub Both : View → View → Type 0
Both v u = Apart v u × Apart u v

-- a pass that has changed stands apart from another, where no ticket is of both
pub apart_both : {v u : View} (w : View) → Both v u → (w.number ≡ v.number) × (w.joined ≡ v.joined)
    → ((t : ℕ) → IsTicket w.stage t → IsTicket u.stage t → ⊥) → Both w u
apart_both w both (number, joined) tickets = (
  record {
    numbers = λ e. both.0.numbers (sym number ∙ e);
    tickets = tickets;
    past = λ k j at. both.0.past k j (sym (ap (λ (js : List Joined). get_elem? js k) joined) ∙ at);
  },
  record {
    numbers = λ e. both.1.numbers (e ∙ number);
    tickets = λ t there here. tickets t here there;
    past = λ k j at e. both.1.past k j at (e ∙ number);
  },
)
