-- The two parts that a writer is handed beside the tables, each a text of its own, judged line by line: what the part stands for, or its first refusal with
-- number, line and column. Lines count within the part.
use Rattle.std.specs.Prelude.{ℕ, suc, List, [], ◌∷◌, ◌++◌, length}
use Rattle.text.specs.Text.{Bytes, Line}
use Rattle.text.specs.Cut.{cut}
use Rattle.rules.specs.Record.{Headers, Item}
use Rattle.judge_line.specs.Got.{Got, got, bad, then}
use Rattle.judge_line.specs.Field.{within}
use Rattle.judge_line.specs.Judge.{first_header_of, item_of, ItemOrEnd, title, close, value_of, ValueOrBlank, value, blank}
use Rattle.judge_file.specs.Verdict.{Verdict, accepted, refused}

-- ---- Any part: places, a turn for each line, and what the part stands for at its end

-- where a run over lines stands at their end, or where it was stopped
pub data Run (P : Type 0) : Type 0 where
  at : P → Run P
  stopped : ℕ → ℕ → ℕ → Run P

-- from a place, at line i
unfoldable pub run : {P : Type 0} → (P → Line → Got P) → P → ℕ → List Line → Run P
run turn p i [] = at p
run turn p i (l ∷ ls) = elim (turn p l) [ got q ↦ run turn q (suc i) ls | bad e column ↦ stopped e i column ]

-- at the end of the complete lines, with what is unfinished after them; the next line would be line i
abbrev pub finish : {P A : Type 0} → (P → ℕ → Verdict A) → P → Bytes → ℕ → Verdict A
finish end p [] i = end p i
finish end p (b ∷ rest) i = refused 19 i 1

abbrev pub conclude : {P A : Type 0} → (P → ℕ → Verdict A) → Run P → Bytes → ℕ → Verdict A
conclude end (at p) rest i = finish end p rest i
conclude end (stopped e i column) rest j = refused e i column

unfoldable pub verdict_from : {P A : Type 0} → (P → Line → Got P) → (P → ℕ → Verdict A) → P → Bytes → Verdict A
verdict_from turn end p s = conclude end (run turn p 1 (cut s).lines) (cut s).rest (suc (length (cut s).lines))

-- ---- Header lines: exactly three

pub data HeaderPlace : Type 0 where
  first : HeaderPlace
  second : Line → HeaderPlace
  third : Line → Line → HeaderPlace
  full : Headers → HeaderPlace  -- no further line may stand

-- a line of good length and bytes
unfoldable pub header_line : HeaderPlace → Line → Got HeaderPlace
header_line first l = then (first_header_of l) λ h. got (second h)
header_line (second h₁) l = got (third h₁ l)
header_line (third h₁ h₂) l = got (full (record { first = h₁; second = h₂; third = l }))
header_line (full hs) l = bad 18 1

unfoldable pub header_turn : HeaderPlace → Line → Got HeaderPlace
header_turn p l = within 80 l (header_line p l)

abbrev pub headers_end : HeaderPlace → ℕ → Verdict Headers
headers_end first i = refused 19 i 1
headers_end (second h₁) i = refused 19 i 1
headers_end (third h₁ h₂) i = refused 19 i 1
headers_end (full hs) i = accepted hs

unfoldable pub headers_verdict : Bytes → Verdict Headers
headers_verdict s = verdict_from header_turn headers_end first s

-- ---- Items: any number of whole ones

pub data ItemPlace : Type 0 where
  items : List Item → ItemPlace  -- a data header must stand
  values : List Item → Bytes → List Line → ItemPlace  -- a value line or the blank line after the values must stand

-- a `$$$$` line ends a record and is no part of its items
abbrev pub after_item : List Item → ItemOrEnd → Got ItemPlace
after_item is (title name) = got (values is name [])
after_item is close = bad 16 1

abbrev pub after_value : List Item → Bytes → List Line → Line → ValueOrBlank → ItemPlace
after_value is name vs l value = values is name (vs ++ (l ∷ []))
after_value is name vs l blank = items (is ++ (record { name = name; values = vs } ∷ []))

-- the longest line of a place: 200 columns where a value line or the blank line after the values may stand, else 80
unfoldable pub item_turn : ItemPlace → Line → Got ItemPlace
item_turn (items is) l = within 80 l (then (item_of l) λ i. after_item is i)
item_turn (values is name vs) l = within 200 l (then (value_of l) λ v. got (after_value is name vs l v))

abbrev pub items_end : ItemPlace → ℕ → Verdict (List Item)
items_end (items is) i = accepted is
items_end (values is name vs) i = refused 19 i 1

unfoldable pub items_verdict : Bytes → Verdict (List Item)
items_verdict s = verdict_from item_turn items_end (items []) s
