-- What the segments of a plan keep.
use Rattle.std.specs.Prelude.{ℕ, ◌≡◌, ◌+◌, ◌<◌, ◌≤◌, List, All, take, length, slice_index_or}
use Rattle.vod_base.specs.declared.limits.TheConstants.{MAX_BYTES, MAX_SLOTS}
use Rattle.plan_cert.specs.PlanSlots.{total_slots, total_bytes}
use Rattle.plan_cert.specs.declared.Segment.{Segment}

-- The segments of a plan: none is empty, and all together are small.
pub record IsPlan (segments : List Segment) : Type 0 where
  pub no_empty : All (λ s. 1 ≤ s.slots) segments
  pub few_slots : total_slots segments ≤ MAX_SLOTS
  pub few_bytes : total_bytes segments ≤ MAX_BYTES

-- Slot `slot` is slot `passed` of this segment of the list, and the segments before it have
-- `before` bytes.
pub record IsSlotPosition (segments : List Segment) (slot : ℕ) (segment : Segment) (passed before :
    ℕ)
    : Type 0 where
  pub index : ℕ
  pub inside : index < length segments
  pub segment_is : segment ≡ slice_index_or segments index segment
  pub within : passed < segment.slots
  pub slot_is : slot ≡ total_slots (take index segments) + passed
  pub before_is : before ≡ total_bytes (take index segments)

-- The first `count` segments of the list have these slots and bytes.
pub record HasPrefix (segments : List Segment) (count slots bytes : ℕ) : Type 0 where
  pub within : count ≤ length segments
  pub slots_are : slots ≡ total_slots (take count segments)
  pub bytes_are : bytes ≡ total_bytes (take count segments)

-- The segments make a plan, of these slots and bytes.
pub record HasSums (segments : List Segment) (slots bytes : ℕ) : Type 0 where
  pub plan : IsPlan segments
  pub slots_are : slots ≡ total_slots segments
  pub bytes_are : bytes ≡ total_bytes segments
