pub mod FilmUrlLemmas
pub mod ModularSums
