pub mod Tracks
pub mod Pieces
pub mod FramedRuns
pub mod Tables
pub mod Laws
