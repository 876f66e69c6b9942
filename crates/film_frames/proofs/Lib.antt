pub mod TrackLemmas
pub mod TraceLemmas
pub mod PieceLemmas
pub mod FilmPieceLemmas
mod TableLemmas
mod FirstUnitLemmas
pub mod RunBytesLemmas
pub mod RunPieceLemmas
mod NextBytesLemmas
pub mod EndedPieceLemmas
pub mod PayloadLemmas
mod ReportLemmas
mod ReportCountLemmas
mod RunPrefixLemmas
mod ReportIndexLemmas
mod PayloadPlaceLemmas
mod ReportPlacementLemmas
mod FramedRunFacts
mod HeadEndLemmas
