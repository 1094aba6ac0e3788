pub mod Heads
pub mod Listing
pub mod Made
