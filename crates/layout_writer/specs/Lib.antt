pub mod Laws
pub mod Lines
pub mod Outputs
pub mod Telling
pub mod Inverse
pub mod Examples
