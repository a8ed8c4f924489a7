-- The certificate we write: the rule that is taken at each step and the steps, computed; and the words of document 01 for both, as statements.
pub mod Choice
pub mod Written
pub mod Ways
pub mod Chosen
