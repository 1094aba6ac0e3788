pub mod Row
pub mod AgreeNumber
pub mod AgreeRow
