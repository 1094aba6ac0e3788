pub mod Pieces
pub mod Chains
pub mod One
pub mod Inside
