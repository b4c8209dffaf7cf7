-- What the proofs of several functions share.
pub mod Copying
pub mod Digits
pub mod Numerals
