-- Calls: lists of calls of the entry points. Questions: questions and commits. `Book` and `Answers` of `records` say what a registry is and what one call answers.
pub mod Calls
pub mod Questions
