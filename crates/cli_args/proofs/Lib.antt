pub mod KeyValueLemmas
mod CapacityLemmas
pub mod SettingLemmas
mod ArgumentTextLemmas
pub mod FilmLemmas
mod RoundTripLemmas
mod InvocationLemmas
mod ArgumentOrderLemmas
mod DefaultLemmas
mod SettingGroupLemmas
mod ArgumentSyntaxLemmas
mod ValidInvocationLemmas
