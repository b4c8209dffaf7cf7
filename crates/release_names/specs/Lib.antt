-- The names of a release: the table by which a declaration is held beside those before it.
pub mod Marks
pub mod Table
pub mod Chains
pub mod Held
