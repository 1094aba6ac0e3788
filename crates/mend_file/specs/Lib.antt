pub mod Promise
pub mod Walked
pub mod Mending
pub mod Promised
