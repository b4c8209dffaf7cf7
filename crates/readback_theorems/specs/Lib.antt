pub mod Printables
pub mod Decided
pub mod Answered
