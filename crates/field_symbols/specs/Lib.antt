pub mod Symbol
pub mod Read
pub mod Table
pub mod Agree
pub mod Write
pub mod Codes
pub mod Places
