-- What only inner functions and their proofs speak of: no promise of an entry point needs it.
pub mod Depth
pub mod Written
pub mod Machine
pub mod Tables
