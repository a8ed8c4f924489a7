-- The laws of writing, over plain values: each function's proof hands its facts to them.
pub mod AnswerLaws
pub mod Promise
pub mod Example
