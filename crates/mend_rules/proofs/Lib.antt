pub mod Named
pub mod Text
pub mod Judged
pub mod Unchanged
pub mod Still
pub mod Sizes
