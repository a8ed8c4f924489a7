-- What is shown of the steps of a proof: they are read exactly where the steps of a derivation stand (`Accepted`), 22 to 25 are given exactly when
-- document 01 says (`Refused`), and the marked cases have their answers (`Marked`).
pub mod Heads
pub mod Rows
pub mod Faithful
pub mod LastStep
pub mod PremiseLaws
pub mod StepLaws
pub mod Accepted
pub mod Faults
pub mod PremiseFaults
pub mod HandFaults
pub mod Refused
pub mod Marked
