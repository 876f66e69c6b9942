mod PacketHeaderSteps
pub mod ItemPartLemmas
mod FedBytesLemmas
pub mod ReadingUniqueness
mod VideoPrefixLemmas
mod PacketHeaderLemmas
pub mod StandardStreamLemmas
mod StandardFaultLemmas
