pub mod Entries
pub mod Lined
pub mod Finding
pub mod Widths
pub mod Named
pub mod Telling
pub mod LinesMeasured
