mod PlayReplies
mod PlayStart
pub mod CurveBounds
mod FaultCounts
mod ElementPrefixes
pub mod FilmBytes
mod ReservationSteps
pub mod HaltAnswers
mod RequestInvariants
pub mod StationAnswers
pub mod PlayProgress
mod PlayGuarantees
pub mod ReplyPlacement
mod WorkerProgress
mod SharedLemmas
mod JoinedLists
pub mod CourseSteps
mod Outcomes
pub mod ReplyContents
pub mod Visits
pub mod Journals
pub mod EventPremises
