-- The calls of a socket, one after the other: what they show of limits, waits and slots.
use Rattle.std.proofs.Common.{◌≡◌, ℕ, ◌+◌, ◌-◌, ◌^◌, ◌<◌, ◌≤◌, Bool, true, false, ◌||◌, List, [], ◌∷◌, ◌++◌, length}
use Rattle.std.proofs.Common.{Option, Some, None, refl, sym, ap, ◌∙◌, append_assoc, arith, inl, inr, length-append}
use Rattle.std.proofs.Common.{if◌then◌else◌, Result, Ok, Err, OnOk, OnErr, subst, ◌==◌}
use Rattle.std.proofs.lemmas.Bool.{eqb-false}
use Rattle.std.proofs.lemmas.List.{append-nil}
use Rattle.vod_base.specs.declared.errors.LinkFault.{LinkFault}
use Rattle.socket_link.specs.declared.limits.Watch.{Watch}
use Rattle.socket_link.specs.Calls.{SocketCall}
use Rattle.socket_link.specs.Waits.{last_from, WaitsFit}
use Rattle.socket_link.specs.Limits.{no_watch, watch_of, reaches_limit, reached_limit}
use Rattle.socket_link.specs.Histories.{IsCause}
use Rattle.socket_link.specs.Steps.{HasServed, HasCalled}
use Rattle.socket_link.proofs.Appends.{last_from-append, waits_fit-append, reached_limit-append}

or-more : (b reached : Bool) → (b || (reached || false)) ≡ (if reached then true else b)
or-more true true = refl
or-more true false = refl
or-more false true = refl
or-more false false = refl

-- whether a limit is reached after one more call
pub reached_after : (was : List SocketCall) (call : SocketCall) {now : List SocketCall} {reached : Bool} →
    now ≡ was ++ call ∷ [] → reaches_limit (watch_of no_watch was) call ≡ reached →
    reached_limit no_watch now ≡ (if reached then true else reached_limit no_watch was)
reached_after was call now_is is =
    ap (reached_limit no_watch) now_is ∙ reached_limit-append no_watch was (call ∷ [])
    ∙ ap (λ b. reached_limit no_watch was || (b || false)) is
    ∙ or-more (reached_limit no_watch was) _

pub longer_call : (was now : List SocketCall) (call : SocketCall) → now ≡ was ++ call ∷ [] → length was < length now
longer_call was now call now_is =
    let len : length now ≡ length was + 1 = ap (λ (l : List SocketCall). length l) now_is ∙ length-append was (call ∷
    []) in
    omega (arith, len)

-- the last call
pub last_call : (was now : List SocketCall) (call : SocketCall) → now ≡ was ++ call ∷ [] → last_from None now ≡ Some
    call
last_call was now call now_is = ap (last_from None) now_is ∙ last_from-append None was (call ∷ [])

pub served_none : (units : ℕ) (was : List SocketCall) → HasServed units was was
served_none units was = record { more = []; now_is = sym (append-nil was); within = refl; waits = tt }

pub served_on : (units : ℕ) (was mid now : List SocketCall) → HasServed units was mid → HasServed units mid now →
    HasServed units was now
served_on units was mid now a b = record {
  more = a.more ++ b.more;
  now_is = b.now_is ∙ ap (λ (l : List SocketCall). l ++ b.more) a.now_is ∙ append_assoc was a.more b.more;
  within = b.within ∙ a.within;
  waits =
      let last : last_from None mid ≡ last_from (last_from None was) a.more =
      ap (last_from None) a.now_is ∙ last_from-append None was a.more in
      let P : Option SocketCall → Type 0 = λ l. WaitsFit units l b.more in
      waits_fit-append units (last_from None was) a.more b.more a.waits (subst P last b.waits);
}

-- calls that are made stay
pub served_longer : (units : ℕ) (was now : List SocketCall) → HasServed units was now → length was ≤ length now
served_longer units was now s =
    let len : length now ≡ length was + length s.more = ap (λ (l : List SocketCall). length l) s.now_is ∙ length-append
    was s.more in
    omega (arith, len)

-- whether a call shows it, by the times that the link keeps
pub reached_by : (watch : Watch) (was : List SocketCall) (call : SocketCall) {reached : Bool} →
    watch ≡ watch_of no_watch was → reaches_limit watch call ≡ reached →
    reaches_limit (watch_of no_watch was) call ≡ reached
reached_by watch was call watch_is is = ap (λ (w : Watch). reaches_limit w call) (sym watch_is) ∙ is

-- what fails later is the cause also if the count of faults was lower before
pub cause_before : (first old new : ℕ) (calls : List SocketCall) → first ≤ old → IsCause old new calls → IsCause first
    new calls
cause_before first old new calls below (inl risen) = inl (λ small. let up : old < new = risen small in omega arith)
cause_before first old new calls below (inr rest) = inr rest

pub cause_rounds : (old new rounds : ℕ) (calls : List SocketCall) → 2 ^ 64 - 1 ≤ rounds → rounds ≤ length calls →
    IsCause old new calls
cause_rounds old new rounds calls all long = inr (inr (omega arith))

pub one_call : (was now : List SocketCall) (call : SocketCall) → now ≡ was ++ call ∷ [] → HasCalled was now
one_call was now call is = record { call = call; now_is = is }

-- what follows from a clause on a result
pub on_err : {A E : Type 0} {P : Type 0} (r : Result A E) → P → OnErr r P
on_err (Ok x) p = tt
on_err (Err e) p = p

pub on_ok_map : {A : Type 0} {P Q : Type 0} (r : Result A LinkFault) → OnOk r P → (P → Q) → OnOk r Q
on_ok_map (Ok x) p f = f p
on_ok_map (Err e) p f = tt

pub on_err_map : {A : Type 0} {P Q : Type 0} (r : Result A LinkFault) → OnErr r P → (P → Q) → OnErr r Q
on_err_map (Ok x) p f = tt
on_err_map (Err e) p f = f p

-- a buffer that isn't empty
pub some_left : (buffer waiting : List ℕ) (empty : Bool) → waiting ≡ buffer → empty ≡ (length waiting == 0) → empty ≡
    false → 0 < length buffer
some_left buffer waiting empty is tested isnt =
    let ne : length waiting ≡ 0 → ⊥ = eqb-false (length waiting) 0 (sym tested ∙ isnt) in
    let some : 0 < length waiting = omega arith in
    let P : List ℕ → Type 0 = λ l. 0 < length l in subst P is some
