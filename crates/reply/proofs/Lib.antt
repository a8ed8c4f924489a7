-- The laws of the reply, its promise, and the example of document 01.
pub mod ReplyLaws
pub mod AnswerLaws
pub mod Promise
pub mod Example
