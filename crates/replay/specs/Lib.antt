pub mod Unpacking
pub mod Stepping
pub mod Opening
pub mod Opened
pub mod Judging
