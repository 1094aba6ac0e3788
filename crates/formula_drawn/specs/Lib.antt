pub mod Drawn
pub mod Tallying
pub mod Listing
