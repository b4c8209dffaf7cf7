pub mod Digits
pub mod Opening
pub mod Storing
