-- The normal form of a transducer: Answers is what its entry point promises. Inner holds what only inner functions and their proofs speak of.
pub mod Answers
pub mod Inner
