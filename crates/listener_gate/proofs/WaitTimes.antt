-- How long a gate waits after several shortages.
use Rattle.std.proofs.Common.{◌≡◌, ℕ, zero, suc, ◌+◌, ◌*◌, ◌^◌, ◌<◌, min, List, [], ◌∷◌, ◌++◌, length, slice_index}
use Rattle.std.proofs.Common.{refl, sym, ap, subst, ◌∙◌, arith, append_assoc}
use Rattle.std.proofs.lemmas.List.{append_cancel_left}
use Rattle.std.proofs.lemmas.Nat.{pow-add}
use Rattle.listener_gate.specs.declared.listeners.ListenerDoing.{ListenerDoing}
use Rattle.listener_gate.specs.declared.listeners.ListenerDoing.TheVariants.{Accepted}
use Rattle.listener_gate.specs.Accepts.{FailedTry, RetriedAtOnce, RetriedAfterWait, first_wait, longer_wait}
use Rattle.listener_gate.specs.Accepts.{failed_tries, IsAcceptedAfter}
use Rattle.listener_gate.specs.Waits.{waits_of}

-- the wait after n shortages
abbrev wait_number : ℕ → ℕ
wait_number n = min (10 * 2 ^ n) 1000

double : (p : ℕ) → min (2 * min (10 * p) 1000) 1000 ≡ min (10 * (2 * p)) 1000
double p = omega arith

longer : (n : ℕ) → longer_wait (wait_number n) ≡ wait_number (n + 1)
longer n = double (2 ^ n) ∙ ap (λ (p : ℕ). min (10 * p) 1000) (sym (pow-add 2 n 1 ∙ (let P = 2 ^ n in omega arith)))

-- the doings after the tries, up to the accept, have no wait
tail_waits : (ms : ℕ) (tries : List FailedTry) →
    waits_of (failed_tries ms tries ++ Accepted ∷ []) ≡ waits_of (failed_tries ms tries)
tail_waits ms [] = refl
tail_waits ms (RetriedAtOnce ∷ tries) = tail_waits ms tries
tail_waits ms (RetriedAfterWait ∷ tries) = ap (λ (l : List ℕ). ms ∷ l) (tail_waits (longer_wait ms) tries)

waits-are : (n ms : ℕ) (tries : List FailedTry) (i : ℕ) → ms ≡ wait_number n →
    i < length (waits_of (failed_tries ms tries)) →
    slice_index (waits_of (failed_tries ms tries)) i ≡ wait_number (n + i)
waits-are n ms [] i is inside = omega (arith, inside)
waits-are n ms (RetriedAtOnce ∷ tries) i is inside = waits-are n ms tries i is inside
waits-are n ms (RetriedAfterWait ∷ tries) zero is inside =
    is ∙ ap wait_number (let same : n ≡ n + 0 = omega arith in same)
waits-are n ms (RetriedAfterWait ∷ tries) (suc i) is inside =
    let next : longer_wait ms ≡ wait_number (n + 1) = ap longer_wait is ∙ longer n in
    let at : n + 1 + i ≡ n + suc i = omega arith in
    waits-are (n + 1) (longer_wait ms) tries i next (omega (arith, inside)) ∙ ap wait_number at

pub wait-number-is : (before more : List ListenerDoing) (i : ℕ) →
    IsAcceptedAfter first_wait before (before ++ more) → i < length (waits_of more) →
    slice_index (waits_of more) i ≡ min (10 * 2 ^ i) 1000
wait-number-is before more i accepted inside =
    let tries = accepted.tries in
    let more_is : more ≡ failed_tries first_wait tries ++ Accepted ∷ [] =
    append_cancel_left before more (failed_tries first_wait tries ++ Accepted ∷ [])
    (accepted.did ∙ append_assoc before (failed_tries first_wait tries) (Accepted ∷ [])) in
    let waits : waits_of more ≡ waits_of (failed_tries first_wait tries) =
    ap waits_of more_is ∙ tail_waits first_wait tries in
    ap (λ (l : List ℕ). slice_index l i) waits
    ∙ waits-are 0 first_wait tries i refl (subst (λ (l : List ℕ). i < length l) waits inside)
    ∙ ap wait_number (let same : 0 + i ≡ i = omega arith in same)
