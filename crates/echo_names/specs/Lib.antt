pub mod Steps
pub mod Groups
pub mod NameTables
pub mod Compared
