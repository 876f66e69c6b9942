pub mod SettingRanges
pub mod Films
pub mod StreamNumbers
pub mod Setups
