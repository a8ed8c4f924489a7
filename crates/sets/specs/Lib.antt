-- Sets of stages: membership, the number that a set is, rows of sets, and the bytes that a set is stored in.
pub mod Member
pub mod Number
pub mod Row
pub mod Stored
pub mod Walk
