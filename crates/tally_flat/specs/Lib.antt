-- What the contracts cite
pub mod Flat
-- A place in the list, and what is added there
pub mod Slots
-- Windows of flat memory, and the tallies in it
pub mod Windows
pub mod Memory
-- Laws for the proofs
pub mod Adding
pub mod Steps
