pub mod Promised
pub mod Answers
