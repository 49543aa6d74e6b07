-- Table: what the starred samples of document 01 say, row by row.
pub mod Table
