pub mod Scripts
pub mod Prepared
pub mod Outcomes
