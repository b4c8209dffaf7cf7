pub mod Errors
pub mod Traced
