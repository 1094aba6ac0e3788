pub mod Step
pub mod Promise
pub mod Titles
pub mod Running
pub mod Agree
pub mod Stepping
