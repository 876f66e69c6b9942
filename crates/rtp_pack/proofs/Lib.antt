mod PackerLemmas
mod CutPointLemmas
pub mod SizeLemmas
mod SliceFlagLemmas
pub mod UnitPacketLemmas
mod PacketizationLemmas
pub mod MarkerLemmas
mod SequenceHeaderLemmas
pub mod ReportCountLemmas
mod RuleUniquenessLemmas
