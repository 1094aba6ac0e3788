pub mod Resume
pub mod Passed
pub mod Fronts
pub mod Theorem
