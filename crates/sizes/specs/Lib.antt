pub mod Size
pub mod Sums
pub mod Count
pub mod Lengths
pub mod SizeExamples
