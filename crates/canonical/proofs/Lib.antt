-- Laws of the normal form. Quotients: writing the quotient, body after body, and what the new file says.
-- Normalizing, Cleaning: the normal form of a transducer, and of the parts of a file. Alike: input trees and equivalence. Laws: what cleaning promises of two files and of its own results.
-- Samples, SampleTrimmed, SampleM: the samples of document 01 that are proved.
pub mod Quotients
pub mod Normalizing
pub mod Cleaning
pub mod Alike
pub mod Laws
pub mod Samples
pub mod SampleTrimmed
pub mod SampleM
