pub mod LetRefused
pub mod Checking
pub mod LetLines
pub mod Naming
pub mod Parts
