pub mod StreamWrites
pub mod ErrorLines
pub mod ExitStatuses
pub mod ReadErrors
pub mod ErrorReports
