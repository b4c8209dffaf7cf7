pub mod Masks
pub mod Rows
