pub mod Limits
pub mod Functions
pub mod Tables
