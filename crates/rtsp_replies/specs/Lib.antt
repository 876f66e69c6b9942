pub mod Replies
pub mod Phrases
pub mod PublicLaws
pub mod Messages
