-- The promise of a fetch, in the words of the rules: when an item is found, which bytes are its value lines, and what a refusal says.
use Rattle.std.specs.Prelude.{ℕ, ◌+◌, ◌-◌, ◌≤◌, ◌≡◌, ◌≢◌, ◌↔◌, List, [], ◌∷◌, ◌++◌, length, take, drop}
use Rattle.text.specs.Text.{Bytes, Line, LF, Without, Ended, Lines}
use Rattle.rules.specs.Forms.{DataHeader}
use Rattle.rules.specs.Record.{Item, Raw, Values, Items, Parts1to5, Record, limit}
use Rattle.judge_refusals.specs.NoRecord.{NoRecord}
use Rattle.reader_item.specs.Find.{Said, item, refused, found_of, stretch_of, part_of}

-- ---- The first item of a name

-- `FirstItem name lines v vs`: among the items that these lines start with, the first of that name has value lines vs, and from them on the lines are v
pub data FirstItem (name : Bytes) : List Line → List Line → List Line → Type 0 where
  here : {l : Line} {v vs u : List Line} → DataHeader l name → Values v vs u → FirstItem name (l ∷ v) v vs
  later : {l : Line} {other : Bytes} {t ws u v vs : List Line} →
      DataHeader l other → other ≢ name → Values t ws u → FirstItem name u v vs → FirstItem name (l ∷ t) v vs

-- no item has the name
unfoldable pub NoneNamed : Bytes → List Item → Type 0
NoneNamed name [] = Unit {0}
NoneNamed name (i ∷ is) = (i.name ≢ name) × NoneNamed name is

-- lines that start with a record, which has an item of that name
pub record ItemIn (name : Bytes) (ls v vs : List Line) : Type 0 where
  pub x : Raw
  pub after_molecule : List Line
  pub after_record : List Line
  pub molecule : Parts1to5 limit ls x.molecule after_molecule
  pub items : Items after_molecule x.items after_record
  pub first : FirstItem name after_molecule v vs

-- ---- Its value lines as bytes

-- one or more lines with the line ends between them: the last one without its end
pub data Joined : List Line → Bytes → Type 0 where
  last : {l : Line} → Joined (l ∷ []) l
  more : {text bs rest : Bytes} {l m : Line} {ls : List Line} →
      text ≡ bs ++ (LF ∷ rest) → Without LF bs → Ended bs l → Joined (m ∷ ls) rest → Joined (l ∷ m ∷ ls) text

-- of a text with lines ls, which from the value lines vs on are v: the bytes before `from` are the lines before those, whole, and the bytes from there up to `to` are vs
pub record Stretch (s : Bytes) (ls v vs : List Line) (from to : ℕ) : Type 0 where
  pub before : List Line
  pub lines : ls ≡ before ++ v
  pub whole : Lines (take from s) before []
  pub order : from ≤ to
  pub inside : to ≤ length s
  pub values : Joined vs (take (to - from) (drop from s))

-- ---- The promise

-- an item without value lines has the empty stretch at the start
pub data FoundAt (s name : Bytes) : ℕ → ℕ → Type 0 where
  some_values : {ls v vs : List Line} {l : Line} {rest : Bytes} {from to : ℕ} →
      Lines s ls rest → ItemIn name ls v (l ∷ vs) → Stretch s ls v (l ∷ vs) from to → FoundAt s name from to
  no_values : {ls v : List Line} {rest : Bytes} →
      Lines s ls rest → ItemIn name ls v [] → FoundAt s name 0 0

-- the record's own refusal, as reading it is refused; number 22 says that the record is good and has no such item
pub data RefusedAt (s name : Bytes) : ℕ → ℕ → ℕ → Type 0 where
  no_record : {e i column : ℕ} → NoRecord s e i column → RefusedAt s name e i column
  no_item : {ls more : List Line} {rest : Bytes} {x : Raw} → Lines s ls rest → Record limit ls x more → NoneNamed name x.items → RefusedAt s name 22 0 0

pub record Fetched (s name : Bytes) (r : Said) : Type 0 where
  pub finds : (from to : ℕ) → (r ≡ item from to) ↔ FoundAt s name from to
  pub refuses : (e i column : ℕ) → (r ≡ refused e i column) ↔ RefusedAt s name e i column

-- what the judge finds, and so the promise in the words of the rules
pub record Promised (s name : Bytes) (r : Said) : Type 0 where
  pub judged : r ≡ found_of s name
  pub fetched : Fetched s name r

-- where bytes stand in memory: a block, and the place in it of the first one
abbrev pub Address : Type 0
Address = ℕ × ℕ

-- The caller's bytes s stand at p; bs is handed back, and stands at q: the stretch of such an answer in s. Refused, or without value lines, it is the empty
-- stretch at the start of s.
pub record Handed (p : Address) (s name : Bytes) (q : Address) (bs : Bytes) : Type 0 where
  pub said : Said
  pub promised : Promised s name said
  pub stands : q ≡ (p.0, (stretch_of said).from + p.1)
  pub part : bs ≡ part_of said s
