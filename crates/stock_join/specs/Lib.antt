-- What the contracts cite
pub mod Step
pub mod Stands
pub mod Promise
-- Proofs: one record more, the promises, the ends of the code
pub mod More
pub mod Counting
pub mod Agree
pub mod Steps
-- Over all files: the join of a log and a catalogue
pub mod Twelve
pub mod Runs
