-- What the contracts cite
pub mod Judge
-- It is the rules' notion of a good list
pub mod Agree
-- Laws for the proofs
pub mod Steps
