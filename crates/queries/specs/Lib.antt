-- Questions about one transducer that are answered without writing an output, and what the entry points promise: Linear, Answers.
-- Inner holds what only inner functions and their proofs speak of.
pub mod Linear
pub mod Answers
pub mod Inner
