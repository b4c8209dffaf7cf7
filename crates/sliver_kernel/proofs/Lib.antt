mod Passing
mod Answering
mod Turns
