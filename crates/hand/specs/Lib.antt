-- The formula in hand: the four variables as one value, the two sides, a record's atom, stage and successors, and what is decoded once of a setup.
pub mod Environment
pub mod Side
pub mod Hand
pub mod Setup
