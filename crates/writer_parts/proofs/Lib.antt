pub mod Turns
pub mod Judging
pub mod Sizing
