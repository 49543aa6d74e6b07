-- Laws: what is laid is one tree, and nothing is earlier than a normal form. AsSymbol: translation gives what is laid, with a symbol for the variables. Rows: the samples are so.
pub mod Laws
pub mod AsSymbol
pub mod Rows
