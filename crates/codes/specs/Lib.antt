-- Codes: the code of an output symbol. Answers: what the function that writes all codes promises. Inner holds what only inner functions and their proofs speak of.
pub mod Codes
pub mod Answers
pub mod Inner
