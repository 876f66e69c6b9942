pub mod Heads
pub mod Lengths
pub mod Elements
pub mod HeadSearch
pub mod Buffer
pub mod Streams
pub mod Laws
