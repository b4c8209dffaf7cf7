pub mod Printable
pub mod Rebuild
pub mod Records
pub mod Reader
pub mod ScriptReader
pub mod ReadAnswers
pub mod Examples
pub mod Thirteen
