pub mod Answer
pub mod HeaderParts
pub mod Within
