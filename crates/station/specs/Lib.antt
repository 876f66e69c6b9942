pub mod Seats
pub mod Ledgers
pub mod Answers
pub mod Bookings
pub mod Inside
