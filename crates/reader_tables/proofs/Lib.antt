pub mod Stored
pub mod Clearing
pub mod Meaning
pub mod Rows
