-- Two transducers joined into one (02, F-9: sheet after sheet): Answers is what the entry point promises. Inner holds what only inner functions and their proofs speak of.
pub mod Answers
pub mod Inner
