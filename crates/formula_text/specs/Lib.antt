pub mod Notation
pub mod Examples
