pub mod Bridge
pub mod WorkTables
pub mod NeverRefused
pub mod Most
pub mod Copying
