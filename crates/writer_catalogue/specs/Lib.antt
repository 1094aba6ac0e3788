pub mod Sizes
pub mod Measuring
pub mod Writing
pub mod TwoPasses
-- Samples
pub mod Samples
