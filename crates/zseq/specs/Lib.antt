-- What the program zseq does between its input and its output.
pub mod Answered
