pub mod Variables
pub mod Roots
pub mod Zeros
pub mod Uncalled
pub mod Scripts
pub mod Placing
