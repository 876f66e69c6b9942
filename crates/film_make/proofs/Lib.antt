pub mod Appends
pub mod GeneratorLemmas
mod FilmLemmas
pub mod TraceLemmas
mod PackLemmas
mod SystemLemmas
mod SizeLemmas
mod SliceLemmas
