pub mod Trace
pub mod TraceExamples
