-- What only inner functions and their proofs speak of.
pub mod Letters
pub mod Queue
pub mod Bodies
pub mod Discovering
