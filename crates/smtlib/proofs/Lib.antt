pub mod LexUnique
pub mod LexTests
pub mod LexRefutations
pub mod GrammarRefutations
pub mod ReadExamples
pub mod ReadsUnique
pub mod ReadRefutations
pub mod LexText
