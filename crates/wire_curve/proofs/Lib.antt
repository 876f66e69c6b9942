pub mod PictureSums
pub mod OwnSlotLemmas
pub mod SlotUsageLemmas
mod SoundCurveLemmas
pub mod FaultExclusion
pub mod PlayedPictureLemmas
