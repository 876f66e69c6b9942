-- Slots are reported once each, in order.
use Rattle.std.proofs.Common.{◌≡◌, ℕ, ◌<◌, List, [], ◌∷◌, ◌++◌, All, nat_lt, refl, sym, ◌∙◌, inl, inr, subst, arith}
use Rattle.std.proofs.lemmas.Bool.{cases_Bool, cond-true, cond-false, lt-ltb, ltb-true}
use Rattle.std.proofs.lemmas.List.Elements.{All-nil, All-cons, All-head, All-weaker}
use Rattle.socket_link.specs.declared.sockets.Purpose.TheVariants.{Slot}
use Rattle.socket_link.specs.Calls.{SocketCall, ReadClock}
use Rattle.socket_link.specs.Slots.{AreFalling, slot_of, slots_after, slots_due, with_slot}
use Rattle.socket_link.proofs.Appends.{slots_due-append}

-- one more slot, if it is newer
with_newer : (slots : List ℕ) (slot : ℕ) → AreFalling slots → AreFalling (with_slot slots slot)
with_newer [] slot falling = (All-nil (λ s. s < slot), tt)
with_newer (last ∷ earlier) slot falling = elim (cases_Bool (nat_lt last slot)) [
  | inl yes_ ↦ let later : last < slot = ltb-true last slot yes_ in
      subst_to (sym (cond-true (nat_lt last slot) (slot ∷ (last ∷ earlier)) (last ∷ earlier) yes_)) (
        All-cons (λ s. s < slot) last earlier later
            (All-weaker (λ s. s < last) (λ s. s < slot) (λ s less. omega (arith, less, later)) earlier falling.0),
        falling,
      )
  | inr not_newer ↦
      subst_to (sym (cond-false (nat_lt last slot) (slot ∷ (last ∷ earlier)) (last ∷ earlier) not_newer)) falling
]
  where
    subst_to : {xs ys : List ℕ} → xs ≡ ys → AreFalling xs → AreFalling ys
    subst_to same is = subst AreFalling same is

after_call : (units : ℕ) (slots : List ℕ) (call : SocketCall) → AreFalling slots →
    AreFalling (slots_after units slots call)
after_call units slots (ReadClock Slot time) is = with_newer slots (slot_of units time) is
after_call units slots _ is = is

falling_after : (units : ℕ) (slots : List ℕ) (calls : List SocketCall) → AreFalling slots →
    AreFalling (slots_due units slots calls)
falling_after units slots [] is = is
falling_after units slots (call ∷ calls) is =
    falling_after units (slots_after units slots call) calls (after_call units slots call is)

pub falling : (units : ℕ) (calls : List SocketCall) → AreFalling (slots_due units [] calls)
falling units calls = falling_after units [] calls tt

newer : (slots : List ℕ) (slot : ℕ) → All (λ s. s < slot) slots → with_slot slots slot ≡ slot ∷ slots
newer [] slot all = refl
newer (last ∷ earlier) slot all =
    cond-true (nat_lt last slot) (slot ∷ (last ∷ earlier)) (last ∷ earlier)
    (lt-ltb last slot (All-head (λ s. s < slot) last earlier all))

pub latest : (units time : ℕ) (calls : List SocketCall) → All (λ s. s < slot_of units time) (slots_due units [] calls) →
    slots_due units [] (calls ++ ReadClock Slot time ∷ []) ≡ slot_of units time ∷ slots_due units [] calls
latest units time calls all =
    slots_due-append units [] calls (ReadClock Slot time ∷ [])
    ∙ newer (slots_due units [] calls) (slot_of units time) all
