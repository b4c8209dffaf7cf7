pub mod Heads
pub mod Lines
