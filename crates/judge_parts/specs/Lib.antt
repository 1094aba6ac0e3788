pub mod Part
pub mod Written
pub mod Runs
pub mod AnyPart
pub mod PartBecause
pub mod PartFrom
pub mod PartAgree
pub mod Samples
