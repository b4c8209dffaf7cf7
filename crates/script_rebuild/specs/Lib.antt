-- A script's problem, rebuilt in local arrays, or why there is none.
pub mod Limits
pub mod Rebuilt
pub mod ArenaLengths
pub mod Steps
pub mod Decided
pub mod Deciding
pub mod Fresh
