pub mod Same
pub mod Exchange
pub mod Files
