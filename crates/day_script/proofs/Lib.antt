pub mod Places
mod TextSplitLemmas
mod IgnoredLineLemmas
mod LineReadLemmas
pub mod ScriptLines
mod NamePlaceLemmas
mod TriedStartTexts
mod AppendedTextLemmas
mod LineTextLemmas
mod WordReadBack
mod ScriptReadBack
mod RefusedLines
mod LineEndLemmas
