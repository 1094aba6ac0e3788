-- What a comparison says of a text, and what it leaves in the list.
use Rattle.std.specs.Prelude.{Result, Ok, Err, ℕ, ◌*◌, List, [], ◌∷◌, map, Bool, cond, ◌&&◌, leb, length, replicate}
use Rattle.std.proofs.lemmas.List.Edits.{sets}
use Rattle.text.specs.Text.{Bytes, Line, bytes}
use Rattle.text.specs.Find.{same_bytes}
use Rattle.rules.specs.Forms.{Atom}
use Rattle.rules.specs.Record.{Item, limit}
use Rattle.judge_file.specs.Place.{sdfile}
use Rattle.judge_file.specs.Verdict.{accepted, refused}
use Rattle.judge_file.specs.Verdict as J
use Rattle.reader_walk.specs.Outcome.{Outcome, whole, outcome_of}
use Rattle.reader_walk.specs.Outcome as O
use Rattle.formula_rules.specs.Total.{count_trees}
use Rattle.formula_rules.specs.Verdict.{Verdict, counts, Difference, differences, numbers}
use Rattle.formula_rules.specs.Verdict as W
use Rattle.formula_rules.specs.Judged.{verdict_of}
use Rattle.formula_drawn.specs.Drawn.{only_elements, how_many}
use Rattle.judge_file.specs.declared.TextRefusal.{TextRefusal}

abbrev pub Said : Type 0
Said = J.Verdict (List Difference)

abbrev pub formula_name : Bytes
formula_name = bytes "FORMULA"

abbrev pub symbols : List Atom → List ℕ
symbols xs = map (λ (a : Atom). a.symbol) xs

-- ---- The first value line of the first item of a name

pub data Value : Type 0 where
  nowhere : Value
  none : Value
  first : Line → Value

abbrev pub value_in : List Line → Value
value_in [] = none
value_in (l ∷ vs) = first l

unfoldable pub value_of : Bytes → List Item → Value
value_of name [] = nowhere
value_of name (i ∷ is) = cond (same_bytes i.name name) (value_in i.values) (value_of name is)

-- ---- What is said, in the order in which it is judged

abbrev pub by_verdict : List ℕ → Verdict → Said
by_verdict ks (counts ts) = cond (only_elements ks) (accepted (differences (count_trees ts) (how_many ks))) (refused 34 0 0)
by_verdict ks (W.refused n) = refused n 0 0

abbrev pub by_value : List ℕ → Value → Said
by_value ks nowhere = refused 22 0 0
by_value ks none = refused 31 0 0
by_value ks (first l) = by_verdict ks (verdict_of l)

abbrev pub by_outcome : Outcome → Said
by_outcome (whole x k) = by_value (symbols x.molecule.atoms) (value_of formula_name x.items)
by_outcome (O.refused e i column) = refused e i column

unfoldable pub said_of : Bytes → Said
said_of s = by_outcome (outcome_of sdfile s)

-- ---- The answer and the list

abbrev pub told_of : Said → Result ℕ TextRefusal
told_of (accepted ds) = Ok (length ds)
told_of (refused e i column) = Err (record { no = e; line = i; column = column })

-- kept shut, for it computes
unfoldable pub zeros : List ℕ
zeros = replicate 354 0

abbrev pub found_in : Said → List ℕ
found_in (accepted ds) = sets zeros 0 (numbers ds)
found_in (refused e i column) = zeros

-- both tables have room for as many atoms and bonds as a record may have
abbrev pub room : ℕ → ℕ → Bool
room la lb = leb (16 * limit) la && leb (6 * limit) lb

unfoldable pub answer_of : ℕ → ℕ → Bytes → Result ℕ TextRefusal
answer_of la lb s = cond (room la lb) (told_of (said_of s)) (Err (record { no = 2; line = 0; column = 0 }))

unfoldable pub found_after : ℕ → ℕ → Bytes → List ℕ → List ℕ
found_after la lb s f = cond (room la lb) (found_in (said_of s)) f
