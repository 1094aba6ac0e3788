pub mod SideBySide
pub mod Smaller
