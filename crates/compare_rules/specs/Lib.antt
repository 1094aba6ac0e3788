-- What a reader has to believe
pub mod Along
pub mod Differences
-- What follows: nothing differs exactly if the readings are the same; the other way round the sides are exchanged
pub mod AlongLaws
pub mod Same
pub mod Exchange
pub mod Files
-- A lent list that fills with differences, what it holds in the end, and how many there were
pub mod Log
pub mod Noted
pub mod Listed
-- the samples hold
pub mod Samples
