-- Marks: the marks of a right-hand side, and the ends of its terms. Wider: a right-hand side read with more states and children.
-- Walks: what a state of the second transducer writes on a right-hand side of the first.
-- Lettering: a list of letters written piece by piece.
pub mod Lettering
pub mod Marks
pub mod Wider
pub mod Walks
