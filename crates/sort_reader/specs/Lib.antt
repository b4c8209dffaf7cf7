pub mod Waits
pub mod WaitLaws
pub mod Sorted
pub mod Leaves
pub mod Selects
