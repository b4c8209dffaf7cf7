pub mod Bars
pub mod Flags
pub mod Texts
pub mod Scan
