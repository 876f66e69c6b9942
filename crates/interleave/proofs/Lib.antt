pub mod ElementStability
pub mod HeadSearchResults
pub mod LaterBytes
mod SkippedLineEnds
pub mod StreamElements
pub mod ElementUniqueness
mod ConcatenatedInput
mod ElementExistence
