pub mod Ready
pub mod Arms
pub mod Places
