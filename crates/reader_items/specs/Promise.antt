-- The promise of a step, in the words of the rules: the lines from a position on begin with a data header and its values, or with a record's last line, or
-- with neither; and where in the text they stand.
use Rattle.std.specs.Prelude.{ℕ, suc, ◌+◌, ◌-◌, ◌≤◌, ◌≡◌, ◌↔◌, List, [], ◌∷◌, ◌++◌, length, take, drop}
use Rattle.text.specs.Text.{Bytes, Line, Lines}
use Rattle.rules.specs.Forms.{DataHeader, ValueLine, RecordEnd}
use Rattle.rules.specs.Record.{Item, Values}
use Rattle.judge_refusals.specs.Demand.{◌and_then◌, Refused}
use Rattle.judge_refusals.specs.Refusals.{fitting, header_or_end, value_or_blank}
use Rattle.reader_item.specs.Promise.{Joined}
use Rattle.reader_items.specs.declared.ItemAt.{ItemAt}
use Rattle.reader_items.specs.Step.{step_of}

-- ---- Places

-- Of the lines ls, of which the first starts at position `at`, k come before u, and u starts at n: the bytes between are those lines, whole.
pub record Behind (s : Bytes) (at : ℕ) (ls u : List Line) (n k : ℕ) : Type 0 where
  pub before : List Line
  pub lines : ls ≡ before ++ u
  pub many : length before ≡ k
  pub low : at ≤ n
  pub inside : n ≤ length s
  pub whole : Lines (take (n - at) (drop at s)) before []

-- value lines by their bytes: both places are 0 where there are none
pub data ValuesIn (s : Bytes) : List Line → ℕ → ℕ → Type 0 where
  none : ValuesIn s [] 0 0
  some : {l : Line} {vs : List Line} {from to : ℕ} → from ≤ to → to ≤ length s → Joined (l ∷ vs) (take (to - from) (drop from s)) → ValuesIn s (l ∷ vs) from to

-- they stand right behind the data header
pub record ValuesStand (s : Bytes) (at : ℕ) (ls v vs : List Line) (from to : ℕ) : Type 0 where
  pub values : ValuesIn s vs from to
  pub start : (1 ≤ length vs) → Behind s at ls v from 1

-- ---- Refusals

-- of lines where values of an item must stand, the first of which is line i, line j is refused; 19 names the line after the last one
pub data NoValues : ℕ → List Line → ℕ → ℕ → ℕ → Type 0 where
  cut_short : {i : ℕ} → NoValues i [] 19 i 1
  bad_line : {i e c : ℕ} {l : Line} {t : List Line} → Refused (fitting 200 l and_then value_or_blank l) e c → NoValues i (l ∷ t) e i c
  later : {i e j c : ℕ} {l : Line} {t : List Line} → ValueLine l → NoValues (suc i) t e j c → NoValues i (l ∷ t) e j c

-- lines that begin neither with an item nor with a record's last line
pub data NoItem : List Line → ℕ → ℕ → ℕ → Type 0 where
  no_line : NoItem [] 19 1 1
  bad_line : {e c : ℕ} {l : Line} {t : List Line} → Refused (fitting 80 l and_then header_or_end l) e c → NoItem (l ∷ t) e 1 c
  bad_values : {e i c : ℕ} {l : Line} {name : Bytes} {t : List Line} → DataHeader l name → NoValues 2 t e i c → NoItem (l ∷ t) e i c

-- ---- The step

-- a name stands behind `>`, the spaces between, and `<`
pub data StepAt (s : Bytes) (at : ℕ) : ItemAt → Type 0 where
  item : {l : Line} {name rest : Bytes} {t vs u : List Line} {from to n k : ℕ} →
      Lines (drop at s) (l ∷ t) rest → (d : DataHeader l name) → Values t vs u →
      ValuesStand s at (l ∷ t) t vs from to → Behind s at (l ∷ t) u n k →
      StepAt s at (ItemAt.Item (at + (d.between + 2)) (at + (d.between + 2 + length name)) from to n k)
  end : {l : Line} {rest : Bytes} {t : List Line} {n : ℕ} →
      Lines (drop at s) (l ∷ t) rest → RecordEnd l → Behind s at (l ∷ t) t n 1 → StepAt s at (ItemAt.End n)
  refused : {ls : List Line} {rest : Bytes} {e i c : ℕ} → Lines (drop at s) ls rest → NoItem ls e i c → StepAt s at (ItemAt.Refused e i c)

-- what the judge finds, and so the promise in the words of the rules
pub record Stepped (s : Bytes) (at : ℕ) (r : ItemAt) : Type 0 where
  pub judged : r ≡ step_of s at
  pub told : (x : ItemAt) → (r ≡ x) ↔ StepAt s at x

-- ---- From step to step

-- steps from a position on visit these items, name for name and value line for value line, and come to a record's last line, behind which n is
pub data Steps (s : Bytes) : ℕ → List Item → ℕ → Type 0 where
  end : {at n : ℕ} → step_of s at ≡ ItemAt.End n → Steps s at [] n
  more : {at a b from to next k n : ℕ} {i : Item} {is : List Item} →
      step_of s at ≡ ItemAt.Item a b from to next k → take (b - a) (drop a s) ≡ i.name → ValuesIn s i.values from to →
      Steps s next is n → Steps s at (i ∷ is) n
