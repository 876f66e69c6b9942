-- Tries to accept, one after another.
use Rattle.std.proofs.Common.{◌≡◌, ℕ, List, [], ◌∷◌, ◌++◌, refl, sym, ap, ◌∙◌, append_assoc}
use Rattle.listener_gate.specs.declared.listeners.ListenerDoing.{ListenerDoing}
use Rattle.listener_gate.specs.Accepts.{FailedTry, RetriedAtOnce, RetriedAfterWait, wait_after, failed_try}
use Rattle.listener_gate.specs.Accepts.{failed_tries, wait_after_tries}

pub wait_after_tries-append : (ms : ℕ) (ts : List FailedTry) (t : FailedTry) →
    wait_after_tries ms (ts ++ t ∷ []) ≡ wait_after t (wait_after_tries ms ts)
wait_after_tries-append ms [] t = refl
wait_after_tries-append ms (u ∷ us) t = wait_after_tries-append (wait_after u ms) us t

pub failed_tries-append : (ms : ℕ) (ts : List FailedTry) (t : FailedTry) →
    failed_tries ms (ts ++ t ∷ []) ≡ failed_tries ms ts ++ failed_try (wait_after_tries ms ts) t
failed_tries-append ms [] RetriedAtOnce = refl
failed_tries-append ms [] RetriedAfterWait = refl
failed_tries-append ms (u ∷ us) t =
    ap (λ (l : List ListenerDoing). failed_try ms u ++ l) (failed_tries-append (wait_after u ms) us t)
    ∙ sym (append_assoc (failed_try ms u) (failed_tries (wait_after u ms) us) (failed_try (wait_after_tries (wait_after
    u ms) us) t))
