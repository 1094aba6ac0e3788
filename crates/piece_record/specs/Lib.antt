pub mod Promise
pub mod Promised
