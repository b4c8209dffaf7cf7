pub mod Bytewise
pub mod Taking
pub mod Agreeing
pub mod Recording
