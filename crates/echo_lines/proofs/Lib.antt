-- Laws on texts and numbers alone.
pub mod Texts
