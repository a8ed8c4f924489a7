-- The dead-end report: what a dead end is, and what the service answers.
pub mod DeadEnd
pub mod Report
