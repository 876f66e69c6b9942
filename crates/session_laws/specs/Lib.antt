pub mod ReplyContents
pub mod PlayLaws
pub mod EndLaws
pub mod CompleteReplies
pub mod RefusalLaws
pub mod ReplyNumbers
pub mod MethodLaws
pub mod SessionTerms
