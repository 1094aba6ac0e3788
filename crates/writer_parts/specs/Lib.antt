pub mod Step
pub mod Lengths
pub mod Here
pub mod Beside
pub mod NeverRefused
