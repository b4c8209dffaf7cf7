mod Shortening
mod Lengthening
mod Answering
