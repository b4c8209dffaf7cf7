-- The lines of the declarations in a file of scripts: what they say, and where they stand.
pub mod Lines
pub mod Texts
pub mod Walk
