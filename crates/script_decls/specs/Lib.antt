pub mod Lines
pub mod Sorts
pub mod Tails
pub mod Going
pub mod Told
