pub mod Running
pub mod Agree
pub mod Stepping
