-- Numbers of the passes, added up.
use Rattle.std.proofs.Common.{◌≡◌, ℕ, zero, suc, ◌+◌, ◌≤◌, List, [], ◌∷◌, ◌++◌, set, ap, sym, arith, Bool, true, false}
use mathlib.Core.Option.{some, some-injective, some-ne-none}
use lib.ListN.{get_elem?}
use Rattle.turnstile.specs.declared.view.View.{View}
use Rattle.turnstile.specs.declared.view.PassStage.{PassStage}
use Rattle.turnstile.specs.declared.view.PassStage.TheVariants.{Idle, Waits, Holds}
use Rattle.turnstile.specs.TurnRule.{total, pass_count, ticket_count, has_ticket}

pub total_set : (f : View → ℕ) (views : List View) (i : ℕ) (v w : View) → get_elem? views i ≡ some v
    → total f (set views i w) + f v ≡ total f views + f w
total_set f [] i v w at = absurd (some-ne-none v (sym at))
total_set f (x ∷ xs) zero v w at = let e : f x ≡ f v = ap f (some-injective x v at) in omega arith
total_set f (x ∷ xs) (suc i) v w at = let e = total_set f xs i v w at in omega arith

pub total_push : (f : View → ℕ) (views : List View) (v : View) → total f (views ++ v ∷ []) ≡ total f views + f v
total_push f [] v = omega arith
total_push f (x ∷ xs) v = let e = total_push f xs v in omega arith

ticket_small : (st : PassStage) → has_ticket st ≤ 1
ticket_small Idle = omega arith
ticket_small (Waits t) = omega arith
ticket_small (Holds t) = omega arith

cond_below : (b : Bool) (n : ℕ) → n ≤ 1 → Rattle.std.proofs.Common.cond b 0 n ≤ Rattle.std.proofs.Common.cond b 0 1
cond_below true n le = omega arith
cond_below false n le = le

pub tickets_total : (views : List View) → total ticket_count views ≤ total pass_count views
tickets_total [] = omega arith
tickets_total (v ∷ rest) = let e = tickets_total rest in let b : ticket_count v ≤ pass_count v =
    cond_below v.spent (has_ticket v.stage) (ticket_small v.stage) in omega arith

pub one_or_none : (v : View) → pass_count v ≤ 1
one_or_none v = below v.spent
  where
    below : (b : Bool) → Rattle.std.proofs.Common.cond b 0 1 ≤ 1
    below true = omega arith
    below false = omega arith
