pub mod Found
pub mod Told
