-- The same of files: two good files have no differences exactly if they have the same reading.
use Rattle.std.specs.Prelude.{List, [], map}
use Rattle.rules.specs.Record.{Raw}
use Rattle.rules.specs.Meaning.{meaning}
use Rattle.compare_rules.specs.Differences.{Difference, differences_of}

-- what differs between the records of two files
abbrev pub files_apart : List Raw → List Raw → List Difference
files_apart xs ys = differences_of (map meaning xs) (map meaning ys)
