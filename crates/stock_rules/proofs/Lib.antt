pub mod OneKey
pub mod EachOnce
