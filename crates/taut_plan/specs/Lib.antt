pub mod Slopes
pub mod Chain
pub mod Links
pub mod Funnel
pub mod Path
pub mod CurveSides
