pub mod TextLines
pub mod MessageWords
pub mod ScriptReading
pub mod ScriptText
pub mod Scripts
pub mod LineTexts
