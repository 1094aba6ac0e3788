-- What the contracts cite
pub mod Read
pub mod Promise
-- Proofs: the items, the bytes of a key, the promise
pub mod Items
pub mod Words
pub mod Agree
pub mod Steps
