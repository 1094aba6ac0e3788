pub mod Number
pub mod Read
pub mod Agree
pub mod Write
pub mod Written
pub mod SignSize
pub mod Signs
pub mod Samples
