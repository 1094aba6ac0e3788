pub mod Taken
pub mod Append
pub mod Free
pub mod Compared
