-- The slots that are missed.
use Rattle.std.proofs.Common.{◌≡◌, ℕ, zero, suc, ◌+◌, ◌-◌, ◌&&◌, cond, ltb, leb, max, sum_by, add-one, arith, inl, inr}
use Rattle.std.specs.List.{range_with_len}
use Rattle.std.proofs.lemmas.Bool.{cases_lt}
use Rattle.std.proofs.lemmas.Bool.Decides.{nat_tests}
use Rattle.wire_curve.proofs.PictureSums.{sum_by-range_more}
use Rattle.session_laws.specs.PlayLaws.{slots_missed}
use Rattle.session.specs.SlotSteps.{missed_between}

abbrev is_missed : ℕ → ℕ → ℕ → ℕ
is_missed heard start t = cond (ltb heard t && leb start t) 1 0

-- so many of the first slots are missed
missed_of : (heard start n : ℕ) → sum_by (is_missed heard start) (range_with_len 0 n) ≡ n - max (heard + 1) start
missed_of heard start zero = let none : 0 ≡ 0 - max (heard + 1) start = omega arith in none
missed_of heard start (suc n) =
    let before = missed_of heard start n in
    let more = rw add-one at (sum_by-range_more (is_missed heard start) n) in
    elim (cases_lt heard n) [
      | inr early ↦ grind (arith, nat_tests)
      | inl later ↦ grind arith
    ]

pub missed_is : (heard start slot : ℕ) → missed_between heard start slot ≡ slots_missed heard slot start
missed_is heard start slot = let all = missed_of heard start slot in omega (arith, all)
