pub mod Appends
pub mod Ends
pub mod HistorySteps
pub mod Orders
pub mod Parts
pub mod Rounds
pub mod Steps
mod Walks
mod SlotLengths
mod LimitTimes
mod SlotOrder
