pub mod Passing
pub mod Texts
