-- Where segments end.
use Rattle.std.proofs.Common.{◌≡◌, ◌<◌, ◌≤◌, ◌+◌, ◌-◌, ℕ, List, length, take, slice_index, arith, ap, ◌∙◌}
use Rattle.std.proofs.lemmas.List.Sums.{sum_by_more, sum_by_more_le}
use Rattle.plan_cert.specs.declared.Segment.{Segment}
use Rattle.plan_cert.specs.PlanSlots.{total_slots, total_bytes}
use Rattle.wire_curve.specs.SoundCurves.{bound_at}
use Rattle.cert_check.specs.ExactLine.{segment_at, end_place, end_height}
use Rattle.cert_check.proofs.TautFormLemmas.{bound_end}

-- segment i ends within the slots of the complete list
pub ends_within : (segments : List Segment) (i : ℕ) → i < length segments
    → total_slots (take i segments) + (segment_at segments i).slots ≤ total_slots segments
ends_within segments i inside = sum_by_more_le (λ s. s.slots) segments i (record { slots = 0; bytes = 0 }) inside

pub end_place_is : (segments : List Segment) (i : ℕ) → i < length segments
    → end_place segments i ≡ total_slots (take i segments) + (segment_at segments i).slots
end_place_is segments i inside = sum_by_more (λ s. s.slots) segments i (record { slots = 0; bytes = 0 }) inside

pub end_height_is : (from : ℕ) (segments : List Segment) (i : ℕ) → i < length segments →
    end_height from segments i ≡ from + total_bytes (take i segments) + (segment_at segments i).bytes
end_height_is from segments i inside =
    let e = sum_by_more (λ s. s.bytes) segments i (record { slots = 0; bytes = 0 }) inside in
    omega (arith, e)

-- the curve at the end of segment i, by the slot before that place
pub curve_there : (from : ℕ) (curve : List ℕ) (segments : List Segment) (i : ℕ) → i < length segments →
    1 ≤ (segment_at segments i).slots →
    bound_at from curve (end_place segments i)
    ≡ slice_index curve (total_slots (take i segments) + (segment_at segments i).slots - 1)
curve_there from curve segments i inside some =
    ap (bound_at from curve) (end_place_is segments i inside)
    ∙ bound_end from curve (total_slots (take i segments) + (segment_at segments i).slots) (omega arith)
