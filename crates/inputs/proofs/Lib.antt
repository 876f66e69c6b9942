pub mod ReadLemmas
mod PackSearchLemmas
pub mod ScanLemmas
mod StreamLemmas
mod SizeLemmas
pub mod VideoLemmas
mod TokenLemmas
mod TokenUniqueness
mod LoadLemmas
mod NumberDigitLemmas
mod FirstWordLemmas
mod TraceWordLemmas
pub mod TraceLineLemmas
mod StreamFaultLemmas
mod LibraryLemmas
mod RefusalLemmas
