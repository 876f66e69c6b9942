mod Halts
mod EntryLemmas
pub mod Makers
mod SeatTurns
mod OpenPlays
mod SeatJoins
pub mod SameSeats
pub mod LongerJournals
mod Offers
mod BookAnswers
