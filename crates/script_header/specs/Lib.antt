pub mod Header
pub mod Steps
