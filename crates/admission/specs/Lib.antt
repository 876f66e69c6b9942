pub mod Machine
pub mod Histories
pub mod Makers
pub mod Books
pub mod BookInvariant
pub mod Inside
