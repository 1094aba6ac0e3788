-- What a reader has to believe
pub mod Said
pub mod Promise
-- What follows
pub mod Values
pub mod Agree
pub mod Ready
pub mod Steps
