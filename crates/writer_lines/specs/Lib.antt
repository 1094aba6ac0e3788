-- What the contracts cite
pub mod Laid
pub mod Lines
-- Laws for the proofs
pub mod Signs
pub mod Zeros
pub mod LineParts
pub mod Walks
