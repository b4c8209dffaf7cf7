pub mod Lets
pub mod LetExamples
pub mod ReachedLaws
pub mod Numbers
