-- What `read_script` answers, and what its outputs become.
pub mod Outputs
