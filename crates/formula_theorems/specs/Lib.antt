pub mod Written
pub mod Canonical
pub mod ReadsUnique
pub mod Brackets
pub mod LeftOut
pub mod GrammarExamples
pub mod MapLines
