mod RtpNumberLemmas
pub mod RunLemmas
mod RequestReadings
mod PlanUniqueness
pub mod AnswerUniqueness
mod ReplyContentLemmas
pub mod SlotCountLemmas
mod OfferLemmas
pub mod PauseTeardownLemmas
pub mod PlayInReadyLemmas
pub mod SetupLemmas
pub mod WholeFilmLemmas
pub mod CompleteReplyLemmas
mod RefusalLawLemmas
mod MethodLemmas
mod CauseLemmas
pub mod ClientReplyLemmas
