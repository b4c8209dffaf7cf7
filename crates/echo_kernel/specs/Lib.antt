pub mod Answered
pub mod Settled
