pub mod Steps
pub mod Ahead
pub mod Operands
pub mod Widths
pub mod Room
pub mod SoFar
