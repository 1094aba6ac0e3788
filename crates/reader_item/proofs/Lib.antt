pub mod Position
pub mod Passing
pub mod Hunting
pub mod First
pub mod Agree
pub mod Beyond
