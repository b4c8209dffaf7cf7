pub mod Parts
pub mod Lying
