pub mod First
pub mod Promise
pub mod Agree
