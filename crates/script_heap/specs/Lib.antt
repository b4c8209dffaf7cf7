pub mod Told
pub mod Laws
pub mod Sides
pub mod Constants
