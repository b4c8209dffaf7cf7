pub mod Reading
pub mod Saying
