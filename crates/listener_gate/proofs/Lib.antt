pub mod Noting
pub mod Tries
mod WaitTimes
