-- Laws of a shown difference. Linking: from the list of pairs to a witness.
-- Firsts, Distances, Decreasing: a tree on which a state's output has another root symbol. Wrapping, Addresses: the tree and the address of a shown difference.
-- Bottoms: the tree below a clash. WayBack: the way back to the initial terms. Showing: the difference that is shown.
pub mod Linking
pub mod Firsts
pub mod Distances
pub mod Decreasing
pub mod Wrapping
pub mod Addresses
pub mod Bottoms
pub mod WayBack
pub mod Showing
