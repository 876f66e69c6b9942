pub mod TurnRule
pub mod Steps
pub mod Passes
pub mod Inside
pub mod PassSeats
pub mod TableSeats
pub mod TurnValues
