pub mod Clash
pub mod Clearable
