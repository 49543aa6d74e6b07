-- Chains: bodies that follow one another. Entering: the answers of an entry.
pub mod Chains
pub mod Entering
