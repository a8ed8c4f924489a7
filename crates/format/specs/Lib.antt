-- The stored forms of document 01: refusals, images, tables, goal and start, and what their readers answer.
pub mod Refusal
pub mod Bytes
pub mod Image
pub mod Table
pub mod Question
pub mod Reading
pub mod Answers
pub mod Coded
pub mod Example
