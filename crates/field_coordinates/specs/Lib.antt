pub mod Coordinate
pub mod Read
pub mod Agree
pub mod Write
pub mod Written
pub mod Samples
