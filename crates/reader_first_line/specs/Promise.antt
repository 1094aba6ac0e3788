-- The promise, in the words of the rules.
use Rattle.std.specs.Prelude.{ℕ, ◌-◌, ◌≤◌, ◌≡◌, List, [], ◌∷◌, length, take, drop}
use Rattle.text.specs.Text.{Bytes, Line, Lines}
use Rattle.rules.specs.Record.{Raw, Record, limit}
use Rattle.reader_item.specs.Promise.{RefusedAt}
use Rattle.reader_item.specs.Beyond.{FirstNamed}
use Rattle.reader_first_line.specs.First.{first_of}
use Rattle.reader_first_line.specs.declared.FirstLine.{FirstLine}

-- the first item of the name in the record that the text begins with: its first value line, or that it has none
pub data FirstAt (s name : Bytes) : FirstLine → Type 0 where
  line : {ls more vs : List Line} {rest : Bytes} {x : Raw} {l : Line} {from to : ℕ} →
      Lines s ls rest → Record limit ls x more → FirstNamed name x.items (l ∷ vs) → from ≤ to → to ≤ length s → take (to - from) (drop from s) ≡ l →
      FirstAt s name (FirstLine.Line from to)
  empty : {ls more : List Line} {rest : Bytes} {x : Raw} → Lines s ls rest → Record limit ls x more → FirstNamed name x.items [] → FirstAt s name FirstLine.Empty
  refused : {e i column : ℕ} → RefusedAt s name e i column → FirstAt s name (FirstLine.Refused e i column)

pub record FirstPromise (s name : Bytes) (r : FirstLine) : Type 0 where
  pub judged : r ≡ first_of s name
  pub first : FirstAt s name r
