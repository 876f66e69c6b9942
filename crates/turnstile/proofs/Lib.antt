pub mod Prefixes
mod PassSums
mod LivePasses
mod StepRules
mod SplitsAndJoins
mod LastView
