pub mod Boundaries
pub mod PartialSends
pub mod PacerStates
pub mod Steps
pub mod Laws
