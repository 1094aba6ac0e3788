pub mod Standing
pub mod Follow
pub mod Bonds
pub mod Judging
