-- Sums that are counted modulo a number.
use Rattle.std.proofs.Common.{◌≡◌, ℕ, ◌+◌, ◌*◌, ◌/◌, ◌%◌, add_assoc, ap, sym, ◌∙◌}
use Rattle.std.proofs.Math.Nat.{add-mul-mod_self_left, mod-add-div}

pub sum_mod : (a b m : ℕ) → (a + b % m) % m ≡ (a + b) % m
sum_mod a b m =
    sym (add-mul-mod_self_left (a + b % m) m (b / m))
    ∙ ap (λ n. n % m) (add_assoc a (b % m) (m * (b / m)) ∙ ap (λ n. a + n) (mod-add-div b m))
