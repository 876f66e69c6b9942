mod ExcessLemmas
mod SlotExcess
mod LeastExcess
pub mod SegmentUniqueness
mod TautUniqueness
mod FeasibilityLemmas
mod ExactLineLemmas
mod TautEquivalence
pub mod TautFormLemmas
pub mod OptimalityProof
mod SegmentEnds
mod LineWalkLemmas
