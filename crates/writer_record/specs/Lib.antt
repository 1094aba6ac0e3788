-- What the contracts cite
pub mod Write
pub mod Promise
-- Laws for the proofs
pub mod Measure
-- Samples
pub mod Samples
