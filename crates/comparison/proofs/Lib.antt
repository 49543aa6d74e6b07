-- Laws of the comparison. Comparing: the comparison of two earliest forms, of the parts of two files, and of two files. Laws: what it promises.
pub mod Comparing
pub mod Laws
