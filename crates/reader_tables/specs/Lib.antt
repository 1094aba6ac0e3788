pub mod Row
pub mod RowParts
pub mod Small
pub mod Held
pub mod Mean
pub mod Meant
pub mod Filled
pub mod Cleared
