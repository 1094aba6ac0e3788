pub mod Says
pub mod OneRows
pub mod Marked
pub mod Rowed
