-- The scripts of a release held beside one another: the earliest that disagrees with one before it.
pub mod Told
pub mod Cutting
pub mod Headers
pub mod Clashes
