-- What the files of alphabets and of an input tree are, how a refusal is answered, and what the entry points promise: Refusal, Alphabets, Code, Tree, Answers.
-- Inner holds what only inner functions and their proofs speak of.
pub mod Refusal
pub mod Alphabets
pub mod Code
pub mod Tree
pub mod Answers
pub mod Inner
