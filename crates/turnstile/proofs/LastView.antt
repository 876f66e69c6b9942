-- What follows from the last state for the first pass.
use Rattle.std.proofs.Common.{◌≡◌, ◌≢◌, ℕ, zero, suc, ◌<◌, List, [], ◌∷◌, length, get_or, Option, Some, refl, ap, sym}
use Rattle.std.proofs.Common.{◌∙◌, subst, ⊎_elim, inl, inr, arith}
use mathlib.Core.Logic.{dite}
use mathlib.Core.List.{IsPrefix}
use mathlib.Core.Option.{some}
use native.Mathlib.Decide.{ℕ_discrete}
use lib.ListN.{get_elem?}
use Rattle.atomic_table.specs.Seated.{TableId}
use Rattle.turnstile.specs.declared.view.Joined.{Joined}
use Rattle.turnstile.specs.declared.view.PassStage.TheVariants.{Idle}
use Rattle.turnstile.specs.declared.view.View.{View}
use Rattle.admission.specs.Makers.{entries_by}
use Rattle.turnstile.specs.TurnRule.{IsAway, IsHome}
use Rattle.turnstile.specs.Passes.{AllJoined, IsJoined, IsWholeList}
use Rattle.turnstile.specs.PassSeats.{state_of_view}
use Rattle.turnstile.proofs.LivePasses.{idle_free, holder_of, not_holder}
use Rattle.turnstile.proofs.StepRules.{KeptValue, Pass, apart_of, fits_of}

at_joined : (joined : List Joined) (number : ℕ) → IsJoined joined number
    → (k : ℕ) × (j : Joined) × (get_elem? joined k ≡ some j) × (j.number ≡ number)
at_joined [] number h = absurd h
at_joined (j ∷ rest) number (inl e) = (0, j, refl, e)
at_joined (j ∷ rest) number (inr h) = let t = at_joined rest number h in (suc t.0, t.1, t.2, t.3)

at_index : (joined : List Joined) (i : ℕ) (d : Joined) → i < length joined
    → get_elem? joined i ≡ some (get_or joined i d)
at_index [] i d h = absurd (omega arith)
at_index (j ∷ rest) zero d h = refl
at_index (j ∷ rest) (suc i) d h = at_index rest i d (omega arith)

-- the first pass, which has no ticket and to which all others were joined
pub record HasAll (v : View) : Type 0 where
  pub idle : v.stage ≡ Idle
  pub first : v.number ≡ 0
  pub all : AllJoined v.splits v.joined

module _ (kept : KeptValue) where
  open kept use {B, entries, terms_of, terms}

  -- who has joined all others finds the value at home
  all_home : (p : Pass kept) → HasAll p.view → IsHome entries terms_of terms p.rule.log p.state
  all_home p it = ⊎_elim (λ (h : IsHome entries terms_of terms r.log p.state). h)
      (λ (a : IsAway r.log p.state).
      let holder = (holder_of a).live in
      let apart = (apart_of kept p holder (not_holder (holder_of a) p.live (idle_free v.stage it.idle))).0 in
      let few = (r.each holder.id holder.view holder.is_live).numbers.few in
      let count = (fits_of kept p).numbers.first it.first in
      let some_one : 0 < holder.view.number =
      dite (ℕ_discrete holder.view.number 0) (λ e. absurd (apart.numbers (it.first ∙ sym e)))
      (λ (ne : holder.view.number ≢ 0). omega arith) in
      let j = at_joined v.joined holder.view.number (it.all.each holder.view.number some_one (omega arith)) in
      absurd (apart.past j.0 j.1 j.2 j.3))
      r.where_is
    where
      open p use {rule as r, view as v}

  -- what the last slot has
  pub record IsLast (id : TableId) (v : View) (slot : Option B) : Type 0 where
    pub value : B
    pub slot_is : slot ≡ Some value
    pub terms_are : terms_of value ≡ v.terms
    pub whole : IsWholeList (state_of_view id v) (entries value)

  pub closes : (p : Pass kept) → HasAll p.view → (table : TableId) {slot : Option B}
      → ((value : Option B) → get_elem? p.state.homes 0 ≡ some (some value) → slot ≡ value) → IsLast table p.view slot
  closes p it table at =
      let h = all_home p it in let f = fits_of kept p in let count = f.numbers.first it.first in record {
        value = h.value;
        slot_is = at (Some h.value) (ap (λ hs. get_elem? hs 0) h.home);
        terms_are = h.terms_are ∙ sym f.terms_are.0;
        whole = record {
          seen = subst (IsPrefix v.seen) (sym h.log_is) f.seen;
          mine = f.mine ∙ ap (entries_by v.number) (sym h.log_is);
          joined = λ i d inside. let p = f.past i (get_or v.joined i d) (at_index v.joined i d inside) in
              p.mine ∙ ap (entries_by (get_or v.joined i d).number) (sym h.log_is);
          others = λ m more. ap (entries_by m) h.log_is ∙ p.rule.makers m (omega arith);
        };
      }
    where
      open p use {view as v}
