pub mod Records
pub mod Every
pub mod Kinds
