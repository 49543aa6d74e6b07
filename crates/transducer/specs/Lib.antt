-- Translation, and what its entry point promises: Output, Answers.
-- Inner holds what only inner functions and their proofs speak of.
pub mod Output
pub mod Answers
pub mod Inner
