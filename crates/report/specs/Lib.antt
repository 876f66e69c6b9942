pub mod AnswerKinds
pub mod EntryLines
pub mod EntryLineForm
pub mod JournalTexts
pub mod CalendarTexts
pub mod CalendarTextForm
