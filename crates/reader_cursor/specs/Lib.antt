-- What the contracts cite
pub mod Walk
-- The law of the walk
pub mod After
-- Laws for the proofs
pub mod FileWalk
