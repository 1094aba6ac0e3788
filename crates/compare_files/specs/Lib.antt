-- What the contracts cite
pub mod Compare
-- The promise
pub mod Promise
-- Laws for the proofs
pub mod Judging
pub mod Pair
pub mod Walking
pub mod Listing
