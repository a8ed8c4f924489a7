-- The executable test of a formula, and what is shown through it: the meaning over paths, the path-trees and the rules say the same.
pub mod Booleans
pub mod Rounds
pub mod Walks
pub mod Compare
pub mod Successors
pub mod Paths
pub mod TestMeaning
pub mod Duality
pub mod Variables
pub mod TreesMeaning
pub mod TestRules
pub mod Sound
pub mod Complete
pub mod ExactlyOne
pub mod Example
