-- Table: the entries of the table, and the search for one. Writing: how all codes are written. Laws: what the promise comes to.
pub mod Table
pub mod Writing
pub mod Laws
