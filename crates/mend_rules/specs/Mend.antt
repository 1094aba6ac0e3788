-- What is mended, line by line, where the judge stands.
use Rattle.std.specs.Prelude.{ℕ, suc, List, [], ◌∷◌, ◌++◌, map, Bool, true, false, cond, ◌&&◌}
use Rattle.text.specs.Text.{Line}
use Rattle.text.specs.Find.{is_blank}
use Rattle.rules.specs.Record.{Raw}
use Rattle.judge_line.specs.Got.{Got, got, bad}
use Rattle.judge_line.specs.Field.{within}
use Rattle.judge_line.specs.Judge.{item_of}
use Rattle.judge_file.specs.Place.{sdfile, Place, first, second, third, counts, atoms, bonds, properties, over, items, values}
use Rattle.judge_file.specs.Place.{Turn, next, done, turn_of}
use Rattle.judge_file.specs.Verdict.{Run, at, stopped}

-- what is done with a line
pub data Action : Type 0 where
  keep : Action
  put : Action  -- an empty line before it
  lose : Action  -- a blank where a data header or `$$$$` must stand, or after the last record

abbrev pub found : {A : Type 0} → Got A → Bool
found (got a) = true
found (bad e column) = false

-- a data header or a `$$$$` line, by the rules
unfoldable pub item_line : Line → Bool
item_line l = found (within 80 l (item_of l))

unfoldable pub all_blank : List Line → Bool
all_blank [] = true
all_blank (l ∷ ls) = is_blank l && all_blank ls

abbrev pub some : List Raw → Bool
some [] = false
some (x ∷ xs) = true

-- at a place, with records finished before, a line and those after it
unfoldable pub action_at : Place → List Raw → Line → List Line → Action
action_at first xs l ls = cond (some xs && all_blank (l ∷ ls)) lose keep
action_at (second h₁) xs l ls = keep
action_at (third h₁ h₂) xs l ls = keep
action_at (counts hs) xs l ls = keep
action_at (atoms hs c k ys) xs l ls = keep
action_at (bonds hs c ys k bs) xs l ls = keep
action_at (properties hs c ys bs ps) xs l ls = keep
action_at (over m) xs l ls = keep
action_at (items m is) xs l ls = cond (is_blank l) lose keep
action_at (values m is name vs) xs l ls = cond (item_line l) put keep

-- where an empty line leads
unfoldable pub emptied : Place → Place
emptied first = first
emptied (second h₁) = second h₁
emptied (third h₁ h₂) = third h₁ h₂
emptied (counts hs) = counts hs
emptied (atoms hs c k ys) = atoms hs c k ys
emptied (bonds hs c ys k bs) = bonds hs c ys k bs
emptied (properties hs c ys bs ps) = properties hs c ys bs ps
emptied (over m) = over m
emptied (items m is) = items m is
emptied (values m is name vs) = items m (is ++ (record { name = name; values = vs } ∷ []))

-- what a line that stays leaves: a place and the records finished, or a refusal
pub data Left : Type 0 where
  went : Place → List Raw → Left
  fell : ℕ → ℕ → Left

abbrev pub left_by : List Raw → Got Turn → Left
left_by xs (got (next q)) = went q xs
left_by xs (got (done x)) = went first (xs ++ (x ∷ []))
left_by xs (bad e column) = fell e column

unfoldable pub left : ℕ → Place → List Raw → Line → Left
left limit p xs l = left_by xs (turn_of sdfile limit p l)

-- what is done with each line; after a refusal the lines stay as they are
unfoldable pub actions_of : ℕ → Place → List Raw → List Line → List Action
actions_of limit p xs [] = []
actions_of limit p xs (l ∷ ls) = elim (action_at p xs l ls) [
  | keep ↦ elim (left limit p xs l) [ went q ys ↦ keep ∷ actions_of limit q ys ls | fell e column ↦ keep ∷ map (λ t. keep) ls ]
  | put ↦ elim (left limit (emptied p) xs l) [ went q ys ↦ put ∷ actions_of limit q ys ls | fell e column ↦ put ∷ map (λ t. keep) ls ]
  | lose ↦ lose ∷ actions_of limit p xs ls
]

-- a line as it comes out, with what comes out before it
abbrev pub piece : Action → Line → List Line
piece keep l = l ∷ []
piece put l = [] ∷ (l ∷ [])
piece lose l = []

unfoldable pub applied : List Action → List Line → List Line
applied [] ls = []
applied (a ∷ as') [] = []
applied (a ∷ as') (l ∷ ls) = piece a l ++ applied as' ls

-- the lines as mended
unfoldable pub mended_lines : ℕ → List Line → List Line
mended_lines limit ls = applied (actions_of limit first [] ls) ls

-- the walk that mends: over the lines as they came, j the next line of the mended text
unfoldable pub walk_from : ℕ → Place → List Raw → ℕ → List Line → Run
walk_from limit p xs j [] = at p xs
walk_from limit p xs j (l ∷ ls) = elim (action_at p xs l ls) [
  | keep ↦ elim (left limit p xs l) [ went q ys ↦ walk_from limit q ys (suc j) ls | fell e column ↦ stopped e j column ]
  | put ↦ elim (left limit (emptied p) xs l) [ went q ys ↦ walk_from limit q ys (suc (suc j)) ls | fell e column ↦ stopped e (suc j) column ]
  | lose ↦ walk_from limit p xs j ls
]
