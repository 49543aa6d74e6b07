-- Keeping, Laws: lists of calls. Standing: what they leave is a registry, and what an entry answers whose clean file is known.
-- Determined: the contracts leave no choice. Questions: lists with questions and commits, and what these answer where an entry is answered so.
pub mod Keeping
pub mod Laws
pub mod Standing
pub mod Determined
pub mod Questions
