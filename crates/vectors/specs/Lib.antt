pub mod Vectors
pub mod BitLaws
pub mod VectorLaws
pub mod Examples
pub mod Values
