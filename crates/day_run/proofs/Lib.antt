mod ScriptLines
mod LineOutcomes
mod ClientSweepLemmas
mod JournalStepLemmas
mod SlotTotals
pub mod DayUniqueness
pub mod FairLines
mod SentBookedLemmas
mod SlotBalance
pub mod DayPrefixLemmas
