-- What is shown of the certificate we write: it is the steps of a proof every rule of which is the one that document 01 names (`Derivation`), all such
-- proofs have the same steps (`ChosenLaws`), what the rule is at each step (`Clauses`), and the marked cases have their steps (`Marked`). What stands
-- before these are laws, for code that writes it too.
pub mod ShapeLaws
pub mod LowestLaws
pub mod WayLaws
pub mod WalkLaws
pub mod Derivation
pub mod ChosenLaws
pub mod Clauses
pub mod Marked
