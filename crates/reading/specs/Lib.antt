pub mod Kinds
pub mod Trees
