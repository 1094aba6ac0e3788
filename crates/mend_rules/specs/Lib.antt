-- What a reader has to believe: what is done with each line, the mended text, and the list
pub mod Mend
pub mod Named
pub mod Text
pub mod Listed
-- What follows: the walk that mends is the judge of the mended text; a good file stays
pub mod Judged
pub mod Unchanged
-- the walk between two lines; the lines by positions
pub mod Still
pub mod Pieces
pub mod Sizes
pub mod Samples
