-- An SDfile walked record by record: its verdict is that of its first record, and then of the rest, with lines added up.
use Rattle.std.specs.Prelude.{ℕ, ◌+◌, ◌≡◌, refl, List, []}
use Rattle.std.proofs.Math.ListN.{length}
use Rattle.text.specs.Text.{Bytes, Line}
use Rattle.rules.specs.Record.{Raw}
use Rattle.judge_file.specs.Place.{first, sdfile}
use Rattle.judge_file.specs.Verdict.{run, Verdict, accepted, conclude}

-- the verdict from here: complete lines and what follows them, with records finished before, and line i first
unfoldable pub file_from : ℕ → List Raw → ℕ → List Line → Bytes → Verdict (List Raw)
file_from limit xs i ls rest = conclude sdfile (run sdfile limit first xs i ls) rest (i + length ls)

-- nothing is left: the file is good
pub walk_end : (limit : ℕ) (xs : List Raw) (i : ℕ) → file_from limit xs i [] [] ≡ accepted xs
unfolding file_from run
walk_end limit xs i = refl
