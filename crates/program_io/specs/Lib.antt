pub mod Moved
pub mod Said
