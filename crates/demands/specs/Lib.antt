-- The demands of the user, each as one record with a field for each part of its text. First: every file can be opened. Second: a sheet sews the plan that 000 defines.
-- Third: alike exactly if equal clean sheets. Joining, Linear, Xml, Partial, Counts, Looking: requests F-9, F-2, F-4, F-10, F-3 and F-6 of document 02, in the same form.
pub mod First
pub mod Second
pub mod Third
pub mod Joining
pub mod Linear
pub mod Xml
pub mod Partial
pub mod Counts
pub mod Looking
