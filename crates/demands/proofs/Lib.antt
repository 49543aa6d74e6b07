-- First, Second, Third: the demands are met. Joining, Linear, Xml, Partial, Counts, Looking: requests F-9, F-2, F-4, F-10, F-3 and F-6 are.
pub mod First
pub mod Second
pub mod Third
pub mod Joining
pub mod Linear
pub mod Xml
pub mod Partial
pub mod Counts
pub mod Looking
