-- What the contracts cite
pub mod Next
pub mod Promise
-- Visits of a whole file
pub mod Visits
pub mod Visiting
-- Laws for the proofs
pub mod Stepping
