pub mod Hidden
pub mod HiddenExamples
pub mod Alike
