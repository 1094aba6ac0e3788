-- What the contracts cite
pub mod Note
pub mod Stands
pub mod Promise
-- Proofs
pub mod Agree
