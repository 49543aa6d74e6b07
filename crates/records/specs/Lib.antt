-- Book: what a registry is. Answers: what the entry points of `registry` promise, of which the steps' contracts speak. Inner holds what only inner functions and their proofs speak of.
pub mod Book
pub mod Answers
pub mod Inner
