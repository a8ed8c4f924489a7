-- The meaning of the formulas over paths, their validity by path-trees, and the rules of proof.
pub mod Meaning
pub mod Test
pub mod Trees
pub mod Rules
