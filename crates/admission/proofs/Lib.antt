pub mod HistoryPrefixes
pub mod Halts
pub mod CapacityBounds
mod Admissions
mod Calendars
mod Journals
pub mod PlayLookup
pub mod OpenPlays
pub mod Makers
pub mod UniqueHistory
pub mod PlayCounts
mod BookedBytes
mod HaltRoom
pub mod OneHalt
