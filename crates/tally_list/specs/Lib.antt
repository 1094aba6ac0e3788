-- What the contracts cite
pub mod Tallies
pub mod Change
-- It is what the flat layer says
pub mod Same
pub mod Adding
pub mod Changing
pub mod Changed
pub mod Layers
