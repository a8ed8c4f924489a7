-- The laws of the formula in hand.
pub mod EnvironmentLaws
pub mod HandLaws
pub mod SideLaws
pub mod SetupLaws
pub mod EntryLaws
pub mod Promise
