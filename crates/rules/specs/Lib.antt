-- What a reader of the project has to believe
pub mod Forms
pub mod Record
pub mod Meaning
pub mod Viable
pub mod Write
pub mod Canon
pub mod Samples
-- What follows from it: a text has one reading
pub mod OneForm
pub mod PartLaws
pub mod Unique
-- canonical lines stand for the reading they are written for
pub mod After
pub mod Texts
pub mod Fields
pub mod Written
pub mod Entries
pub mod CanonGood
pub mod Rewritten
pub mod Handed
-- flat tables as their rows
pub mod Rows
-- the samples hold
pub mod SamplesHold
