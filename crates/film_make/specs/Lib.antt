pub mod Generator
pub mod Trace
pub mod Film
pub mod SystemStream
pub mod Headers
pub mod Slices
