-- The three demands: the page (`Demands`), and before it what it is for a service to answer (`Services`). The marked cases: one table (`Cases`).
pub mod Services
pub mod Demands
pub mod Cases
