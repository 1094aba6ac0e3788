pub mod Looking
pub mod Good
