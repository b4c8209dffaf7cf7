pub mod Lent
pub mod Records
pub mod Clearing
