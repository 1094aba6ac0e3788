-- What a reader has to believe
pub mod Tally
pub mod Book
pub mod Report
-- What follows: the order is kept, every record is counted once, each supplier has its own
pub mod Order
pub mod Counts
pub mod Kept
pub mod Month
pub mod Samples
