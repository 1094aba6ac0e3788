pub mod Answer
pub mod AtomParts
pub mod Usual
