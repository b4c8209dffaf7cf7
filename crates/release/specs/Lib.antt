-- A release file: what is told of it, script by script, and in two numbers.
pub mod Told
pub mod Order
pub mod Refusing
pub mod Numbers
