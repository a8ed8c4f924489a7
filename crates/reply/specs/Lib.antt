-- What the program zseq answers: one line for one input.
pub mod Reply
pub mod Printing
