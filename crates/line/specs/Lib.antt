-- The input and the printed line of the program zseq, in document 01's words, and what a writer leaves in a lent buffer.
pub mod Front
pub mod Framing
pub mod Text
pub mod Put
pub mod Line
