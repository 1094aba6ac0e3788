pub mod Books
pub mod Lots
pub mod Entries
pub mod Limits
