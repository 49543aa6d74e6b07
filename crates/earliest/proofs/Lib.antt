-- Laws of the earliest form. Places: the letters of a term by number and by address. Expanded, Expanding: expanded right-hand sides as letters and as terms.
-- Locating: the subtree of a letter. Numbers: the earliest form with numbers for its states is the earliest form of the theory.
-- Finding: the letters of a right-hand side. Opening: those of the initial term. Forming: the earliest form of a file. Laws: contracts determine the answer.
pub mod Locating
pub mod Expanded
pub mod Places
pub mod Expanding
pub mod Numbers
pub mod Finding
pub mod Opening
pub mod Forming
pub mod Laws
