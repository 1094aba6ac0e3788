-- What the contracts cite
pub mod Count
pub mod Promise
-- The supplier that is found is the one of the rules
pub mod Naming
-- Laws for the proofs: one record, a whole file, the copy
pub mod Steps
pub mod Counting
pub mod Copies
-- One answer for every input
pub mod Once
