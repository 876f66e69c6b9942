mod RingRotation
mod BlockMaxima
pub mod PlanSlots
mod SlotChanges
pub mod PlayShares
pub mod CapacitySteps
mod SegmentRoom
pub mod FirstOverflow
pub mod AllSlotOverflow
