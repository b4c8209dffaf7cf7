pub mod Heads
pub mod Numerals
pub mod HeadLaws
