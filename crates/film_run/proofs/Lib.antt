pub mod SumLemmas
pub mod CurveLemmas
mod UsedBytesLemmas
mod TimeUnitLemmas
mod SeekLemmas
pub mod NewRunLemmas
mod HaltLemmas
pub mod PlanLemmas
pub mod RemainingRunLemmas
mod BoundaryLemmas
mod UsedPictureLemmas
mod SeekTimeLemmas
