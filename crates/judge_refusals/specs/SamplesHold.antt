-- The table of samples (`judge_file/specs/Samples`) in the words of the rules and of the table of refusals: one statement for all of it, from the one
-- computation there.
use Rattle.std.specs.Prelude.{ℕ, ◌≡◌, ◌⊎◌, List, [], ◌∷◌, ℤ}
use Rattle.text.specs.Text.{Bytes, Line, Lines}
use Rattle.rules.specs.Record.{Raw, GoodMolfile, GoodSDfile, limit}
use Rattle.judge_file.specs.Place.{FileKind, molfile, sdfile}
use Rattle.judge_file.specs.Promise.{Refusal}
use Rattle.judge_file.specs.Samples.{Shown, shows, stops, Sample}
use Rattle.judge_refusals.specs.Because.{Because}

-- by the rules the text stands for records of which this is seen
abbrev pub Reads : FileKind → Bytes → (List Raw → List ℤ) → List ℤ → Type 0
Reads molfile s look zs = (x : Raw) × GoodMolfile s x × (look (x ∷ []) ≡ zs)
Reads sdfile s look zs = (xs : List Raw) × GoodSDfile s xs × (look xs ≡ zs)

-- The line is the first after which no further lines make a file, and the table of refusals gives it this number and column; or the lines can be finished,
-- and 19 names the line after them.
abbrev pub Stops : FileKind → Bytes → ℕ → ℕ → ℕ → Type 0
Stops kind s e i column = Refusal kind limit s e i column × ((e ≡ 19) ⊎ ((ls : List Line) × (rest : Bytes) × Lines s ls rest × Because kind limit ls e i column))

abbrev pub Says : FileKind → Bytes → (List Raw → List ℤ) → Shown → Type 0
Says kind s look (shows zs) = Reads kind s look zs
Says kind s look (stops e i column) = Stops kind s e i column

abbrev pub Holds : Sample → Type 0
Holds s = Says s.kind s.text s.look s.is
