pub mod Openings
pub mod NodeText
pub mod Placed
