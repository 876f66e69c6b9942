pub mod AppendLemmas
pub mod DigitLemmas
mod FileSearch
pub mod SplitLemmas
mod PartLinkLemmas
mod EventDelivery
mod LineLemmas
pub mod LinkLogLemmas
pub mod PrefixSums
pub mod HistoryLemmas
pub mod TextLemmas
