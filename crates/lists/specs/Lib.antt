pub mod Bytes
pub mod Tests
pub mod Build
pub mod Member
pub mod Places
