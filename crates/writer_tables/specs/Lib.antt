pub mod Tables
pub mod PairKey
pub mod AgreeRows
pub mod AgreePairs
pub mod Agree
