pub mod Look
pub mod Promise
pub mod Looking
