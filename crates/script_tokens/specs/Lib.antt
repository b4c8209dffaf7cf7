pub mod Reached
pub mod Bytes
pub mod Stretches
pub mod Numerals
