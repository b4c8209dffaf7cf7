pub mod Checked
pub mod Strict
pub mod Body
pub mod Whole
pub mod Assertions
