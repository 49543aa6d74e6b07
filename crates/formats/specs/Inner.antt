-- What only inner functions and their proofs speak of: no promise of an entry point needs it.
pub mod Layout
pub mod Marked
pub mod Judging
pub mod Written
