pub mod Passed
pub mod Theorem
