-- Numbers: std's methods on numbers. Tried: exits of a `?`. Forest, Codes: trees and their codes. Letters: what bytes say. Extents, Trees: measuring a tree. Standing: the same from the last letter to the first, with a table of levels.
-- Stock: the file of the alphabets. Deciding, Judging: what tests and entry points answer. Laws: what the promises come to.
pub mod Numbers
pub mod Forest
pub mod Codes
pub mod Letters
pub mod Extents
pub mod Standing
pub mod Trees
pub mod Stock
pub mod Deciding
pub mod Tried
pub mod Judging
pub mod Laws
