-- What a reader has to believe
pub mod Key
pub mod Join
-- What follows: two texts never have one key; each record is counted or listed once, and the books; samples
pub mod OneKey
pub mod EachOnce
pub mod Places
pub mod Lots
pub mod Samples
