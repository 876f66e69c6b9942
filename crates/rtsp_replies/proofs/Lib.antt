pub mod ReplyTextLemmas
pub mod ReplyMessages
pub mod ReplyPhrases
