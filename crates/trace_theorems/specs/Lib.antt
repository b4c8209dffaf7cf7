pub mod Bridge
pub mod OnTrees
pub mod Accepting
