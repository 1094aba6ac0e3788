pub mod TablesRead
pub mod Promised
pub mod RowedHolds
pub mod Follows
