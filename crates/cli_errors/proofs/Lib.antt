pub mod StreamWriteLemmas
pub mod ReadErrorLemmas
pub mod ExitStatusLemmas
pub mod CauseReadBack
pub mod NumberTextLemmas
pub mod ErrorLineReadBack
