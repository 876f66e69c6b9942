pub mod RefusedStarts
pub mod AllSlotOffers
