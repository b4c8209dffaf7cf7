pub mod Fixed
pub mod Digits
