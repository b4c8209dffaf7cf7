pub mod Lines
pub mod Building
pub mod Laws
pub mod Cuts
pub mod Examples
pub mod Scanning
pub mod Numbers
