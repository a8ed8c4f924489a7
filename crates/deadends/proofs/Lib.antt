-- The laws of the dead-end report, over plain values: each function's proof hands its facts to them.
pub mod DeadEndLaws
pub mod Promise
pub mod Example
