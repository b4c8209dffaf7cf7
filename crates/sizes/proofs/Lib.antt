pub mod Operands
pub mod Operators
pub mod Terms
pub mod Scripts
pub mod Count
