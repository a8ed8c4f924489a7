-- The graph of stages and the formulas, with the bytes taken away.
pub mod Graph
pub mod Formula
pub mod Decides
