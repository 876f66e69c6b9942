pub mod CodeLemmas
pub mod ScanStepLemmas
mod HeaderRunLemmas
pub mod ByteReadLemmas
pub mod FilmLemmas
mod CodeSpacingLemmas
pub mod PartTilingLemmas
pub mod UnitNumberingLemmas
mod CodePlaceLemmas
mod FilmGrammarLemmas
pub mod FilmBoundLemmas
pub mod UnitLayoutLemmas
mod HeaderByteLemmas
pub mod FirstUnitLemmas
mod NextCodeLemmas
mod ScanBoundLemmas
mod LatestUnitLemmas
mod EndedUnitLemmas
mod StandardLemmas
mod CodeOrderLemmas
mod SliceLemmas
mod UnitUniqueness
mod DecisionLemmas
mod CodesBeforeLemmas
mod CodeCountLemmas
mod HeaderLemmas
mod RefusalLemmas
mod FilmRefusalLemmas
pub mod RateLemmas
pub mod FirstHeadLemmas
