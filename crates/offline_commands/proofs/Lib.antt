pub mod CommandOutputLemmas
mod PictureLemmas
pub mod PlanUniqueness
pub mod VerdictUniqueness
mod ScanTextLemmas
pub mod DayLemmas
pub mod NumberFieldLemmas
mod TextReadBack
pub mod LineFieldLemmas
mod ScanLineReadBack
mod HelpTextLemmas
