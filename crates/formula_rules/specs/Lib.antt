-- What a reader has to believe: which texts are formulas, how deep they nest, how many atoms of an element they name
pub mod Formula
pub mod Depth
pub mod Total
-- What a line is worth, and which elements differ
pub mod Verdict
-- What follows: the reading computed, sound and complete; one reading
pub mod Bytes
pub mod Element
pub mod Parse
pub mod Ends
pub mod Fuel
pub mod Complete
-- the counts added into a table, capped
pub mod Sums
pub mod Capped
pub mod Judged
pub mod Listed
pub mod Samples
