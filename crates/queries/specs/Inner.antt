-- What only inner functions and their proofs speak of: no promise of an entry point needs it.
pub mod Uses
pub mod Reading
pub mod Machine
pub mod Placed
