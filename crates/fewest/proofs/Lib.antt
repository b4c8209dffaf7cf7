pub mod Least
pub mod Refused
pub mod Always
