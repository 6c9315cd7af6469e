pub mod AnswerLaws
pub mod Clearing
pub mod FrameLaws
pub mod ReplyLaws
