pub mod StartSearch
pub mod OffersInvariant
