-- What is best about a plan's segments, over the plan's slots and every other list that the same
-- curves allow.
use Rattle.std.specs.Prelude.{ℕ, ◌*◌, ◌≤◌, ◌≡◌, List, All}
use Rattle.plan_cert.specs.declared.Segment.{Segment}
use Rattle.plan_cert.specs.PlanSlots.{plan_slots}
use Rattle.plan_cert.specs.Feasibility.{IsFeasible, IsFeasibleIn, excess}
use Rattle.cert_check.specs.CertFaults.{IsTaut}

pub record IsBestPlan (from : ℕ) (low up : List ℕ) (segments : List Segment) : Type 0 where
  -- no fault is there
  pub taut : IsTaut from low up segments
  -- the slots keep the running sum between the curves
  pub feasible : IsFeasible from low up (plan_slots segments)
  -- no feasible list of whole bytes sends less above any rate p/q
  pub least_excess : (y : List ℕ) → IsFeasible from low up y →
      (p q : ℕ) → 1 ≤ q → excess (plan_slots segments) p q ≤ excess y p q
  -- nor does one that counts m-ths of a byte, above any integer rate
  pub least_excess_in_parts : (m : ℕ) (y : List ℕ) → IsFeasibleIn m from low up y →
      (p : ℕ) → m * excess (plan_slots segments) p 1 ≤ excess y (m * p) 1
  -- no feasible list of whole bytes has a smaller greatest slot
  pub least_peak : (y : List ℕ) → IsFeasible from low up y →
      (peak : ℕ) → All (λ b. b ≤ peak) y → All (λ b. b ≤ peak) (plan_slots segments)
  -- no other list of segments is taut between these curves
  pub only : (others : List Segment) → IsTaut from low up others → others ≡ segments
