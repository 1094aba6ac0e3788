-- Where the judge stops is the first line after which no further lines make a file; where it does not stop, some do.
use Rattle.std.specs.Prelude.{ℕ, ◌≡◌, List, []}
use Rattle.text.specs.Text.{Line}
use Rattle.rules.specs.Record.{Raw}
use Rattle.rules.specs.Viable.{AMolfile, AnSDfile}
use Rattle.judge_file.specs.Place.{FileKind, molfile, sdfile, Place, first}
use Rattle.judge_file.specs.Verdict.{at, run}
use Rattle.judge_file.specs.Runs.{End}

-- the files of a kind
abbrev pub AFile : FileKind → ℕ → List Line → Type 0
AFile molfile limit ls = AMolfile limit ls
AFile sdfile limit ls = AnSDfile limit ls

module _ (kind : FileKind) (limit : ℕ) where
  -- a file's run ends where a file may end
  pub record Finished (ls : List Line) : Type 0 where
    pub q : Place
    pub ys : List Raw
    pub zs : List Raw
    pub is : run kind limit first [] 1 ls ≡ at q ys
    pub ends : End kind q zs
