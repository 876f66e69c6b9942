pub mod Units
pub mod Runs
pub mod Plans
pub mod Pauses
pub mod Seeks
pub mod Laws
pub mod SeekLaws
