pub mod Enclosing
pub mod Notations
