pub mod Laws
pub mod Cuts
pub mod Examples
pub mod Scanning
