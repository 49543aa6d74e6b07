-- Laws of the pair search. Stepping: marks side by side. Joining: classes joined pair by pair. Searching: the search.
pub mod Stepping
pub mod Joining
pub mod Searching
