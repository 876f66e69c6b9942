pub mod Profiles
pub mod Plays
pub mod Totals
pub mod Calendars
pub mod Rings
pub mod Inside
