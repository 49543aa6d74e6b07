-- What only inner functions and their proofs speak of: no promise of an entry point needs it.
pub mod Nodes
pub mod Leaves
pub mod Slim
pub mod OtherRoot
pub mod Exact
pub mod ReadCalls
pub mod Follows
pub mod Total
pub mod CodesForm
pub mod Keeps
pub mod Closed
pub mod Graft
pub mod Forests
pub mod PairCodes
