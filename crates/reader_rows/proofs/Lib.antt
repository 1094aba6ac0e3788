pub mod Asked
pub mod Marked
pub mod Rowed
