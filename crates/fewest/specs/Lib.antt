pub mod Fewest
pub mod FewestExamples
pub mod Least
pub mod Uses
pub mod Refused
