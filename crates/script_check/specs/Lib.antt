pub mod Check
pub mod Steps
pub mod Turns
