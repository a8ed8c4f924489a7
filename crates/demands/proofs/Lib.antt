-- The three demands are met (`Promise`), their hypotheses can be (`Instances`), and the marked cases come out as document 01 says (`Marked`). Two results
-- that meet a contract are one, where a function's own crate does not say so (`OnceLaws`).
pub mod ServiceLaws
pub mod Promise
pub mod Instances
pub mod Marked
pub mod OnceLaws
