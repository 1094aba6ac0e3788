-- What the contracts cite
pub mod Reported
-- Laws for the proofs
pub mod Steps
