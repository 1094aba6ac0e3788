-- What the contracts cite
pub mod Properties
pub mod Body
-- Laws for the proofs
pub mod Listing
pub mod Sizes
