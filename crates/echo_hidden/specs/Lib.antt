pub mod Covered
pub mod CoveredText
pub mod Answering
