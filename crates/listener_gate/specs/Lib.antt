pub mod Accepts
pub mod Codes
pub mod Histories
pub mod Listeners
pub mod Openings
pub mod Waits
