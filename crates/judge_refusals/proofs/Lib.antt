pub mod Fields
pub mod Lines
pub mod Lists
pub mod Places
pub mod Because
pub mod SamplesHold
