pub mod Operands
pub mod Texts
pub mod Ready
pub mod Walks
pub mod StyleLaws
pub mod StyleExamples
pub mod LetTexts
