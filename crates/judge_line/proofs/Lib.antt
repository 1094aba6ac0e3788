pub mod AgreeLine
pub mod AgreeProperty
pub mod AgreeItem
pub mod Agree
