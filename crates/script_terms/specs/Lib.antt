pub mod States
pub mod StateLaws
pub mod Turns
pub mod OperandLaws
pub mod TurnLaws
pub mod OpenLaws
pub mod Lengths
pub mod SortLaws
