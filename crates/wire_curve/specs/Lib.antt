pub mod SoundCurves
pub mod FilmCurves
pub mod CurveFaults
pub mod SlotUsage
pub mod PlayedPictures
