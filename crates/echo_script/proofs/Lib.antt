pub mod Checking
pub mod Printing
