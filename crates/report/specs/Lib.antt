-- Text: the lines of the program `sheets`, to the byte. Answers: what the function that writes them promises. Inner holds what only inner functions and their proofs speak of.
pub mod Text
pub mod Answers
pub mod Inner
