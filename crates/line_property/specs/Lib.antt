pub mod Listed
pub mod Emptied
pub mod Answer
pub mod Kept
pub mod Seen
pub mod Entering
pub mod Proper
pub mod Shown
