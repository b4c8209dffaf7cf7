pub mod Terms
pub mod Forms
pub mod Closing
pub mod Going
pub mod Loop
pub mod Turning
