pub mod Values
pub mod Adds
