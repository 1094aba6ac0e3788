pub mod Sound
pub mod Complete
pub mod Capped
pub mod Judged
