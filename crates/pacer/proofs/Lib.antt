pub mod SendLemmas
pub mod PacerStateLemmas
pub mod SlotStepLemmas
mod PlanBytesLemmas
