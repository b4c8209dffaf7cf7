pub mod Parts
pub mod Ends
