pub mod PartBecause
pub mod PartFrom
pub mod PartAgree
