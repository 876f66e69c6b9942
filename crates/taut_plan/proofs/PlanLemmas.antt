-- The list of all segments is a plan, and it is taut.
use Rattle.std.proofs.Common.{ℕ, List, length, arith, ◌∙◌}
use Rattle.wire_curve.specs.SoundCurves.{AreSound, bound_at}
use Rattle.plan_cert.specs.declared.Segment.{Segment}
use Rattle.plan_cert.specs.Plan.{IsPlan}
use Rattle.cert_check.specs.CertFaults.{IsTaut}
use Rattle.cert_check.specs.Optimality.{IsBestPlan}
use Rattle.cert_check.proofs.OptimalityProof.{best, no_empties}
use Rattle.cert_check.proofs.TautFormLemmas.{bound_end, closed_of_sound, start_of, taut_from_runs}
use Rattle.taut_plan.specs.Path.{IsTautPath}

pub plan_of_whole : (from : ℕ) (low up : List ℕ) (segments : List Segment) → AreSound from low up
    → IsTautPath (bound_at from low) (bound_at from up) from (length low) segments → IsPlan segments
plan_of_whole from low up segments sound whole =
    let slots = whole.slots in
    let bytes = whole.bytes in
    let few = sound.few_slots in
    let fits = sound.total_fits in
    let meet = sound.meet_at_end in
    let last = bound_end from up (length low) sound.some_slot in
    record {
      no_empty = no_empties (start_of from low up) segments whole.runs;
      few_slots = omega (arith, slots, few);
      few_bytes = omega (arith, bytes, last, meet, fits);
    }

pub taut_of_whole : (from : ℕ) (low up : List ℕ) (segments : List Segment) → AreSound from low up
    → IsTautPath (bound_at from low) (bound_at from up) from (length low) segments
    → IsTaut from low up segments
taut_of_whole from low up segments sound whole =
    taut_from_runs (closed_of_sound from low up sound) (record {
      runs = whole.runs;
      slots = whole.slots;
      total = whole.bytes ∙ bound_end from up (length low) sound.some_slot;
    })

pub best_of_whole : (from : ℕ) (low up : List ℕ) (segments : List Segment) → AreSound from low up
    → IsTautPath (bound_at from low) (bound_at from up) from (length low) segments
    → IsBestPlan from low up segments
best_of_whole from low up segments sound whole =
    best from low up segments (closed_of_sound from low up sound) (taut_of_whole from low up segments sound whole)
