pub mod Agree
pub mod Free
pub mod Compared
