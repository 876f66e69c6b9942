pub mod FloorLemmas
pub mod SlotSums
pub mod PlanSlotLemmas
pub mod DecimalLemmas
pub mod GrammarLemmas
pub mod CertUniqueness
mod CertTextLemmas
pub mod BadLines
