pub mod InOrder
pub mod Counts
pub mod Kept
pub mod Month
