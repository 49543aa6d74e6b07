-- Comparing two transducers: Answers is what the entry point promises. Inner holds what only inner functions and their proofs speak of.
pub mod Answers
pub mod Inner
