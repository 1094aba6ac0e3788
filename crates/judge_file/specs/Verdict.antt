-- A verdict, of whatever is judged line by line; and the judge's verdict on a whole text: its records, or the first refusal with number, line and column.
use Rattle.std.specs.Prelude.{ℕ, suc, List, [], ◌∷◌, ◌++◌, length}
use Rattle.text.specs.Text.{Bytes, Line}
use Rattle.text.specs.Cut.{cut}
use Rattle.rules.specs.Record.{Raw}
use Rattle.judge_line.specs.Got.{got, bad}
use Rattle.judge_file.specs.Place.{FileKind, molfile, sdfile, Place, first, second, third, counts, atoms, bonds, properties, over, items, values}
use Rattle.judge_file.specs.Place.{next, done, turn_of}

-- where a run over lines stands at their end, with the records finished; or where it was stopped
pub data Run : Type 0 where
  at : Place → List Raw → Run
  stopped : ℕ → ℕ → ℕ → Run

-- from a place, with records finished before, at line i
unfoldable pub run : FileKind → ℕ → Place → List Raw → ℕ → List Line → Run
run kind limit p xs i [] = at p xs
run kind limit p xs i (l ∷ ls) = elim (turn_of kind limit p l) [
  | got t ↦ elim t [ next q ↦ run kind limit q xs (suc i) ls | done x ↦ run kind limit first (xs ++ (x ∷ [])) (suc i) ls ]
  | bad e column ↦ stopped e i column
]

-- what a text or a part of one is found to stand for; or the first refusal
pub data Verdict (A : Type 0) : Type 0 where
  accepted : A → Verdict A
  refused : (number line column : ℕ) → Verdict A

-- what stands for something stands for a function of it
abbrev pub mapped : {A B : Type 0} → (A → B) → Verdict A → Verdict B
mapped f (accepted a) = accepted (f a)
mapped f (refused e i column) = refused e i column

-- an SDfile may end where a record may begin; the next line would be line i
abbrev pub end_sdfile : Place → List Raw → ℕ → Verdict (List Raw)
end_sdfile first xs i = accepted xs
end_sdfile (second h₁) xs i = refused 19 i 1
end_sdfile (third h₁ h₂) xs i = refused 19 i 1
end_sdfile (counts hs) xs i = refused 19 i 1
end_sdfile (atoms hs c k ys) xs i = refused 19 i 1
end_sdfile (bonds hs c ys k bs) xs i = refused 19 i 1
end_sdfile (properties hs c ys bs ps) xs i = refused 19 i 1
end_sdfile (over m) xs i = refused 19 i 1
end_sdfile (items m is) xs i = refused 19 i 1
end_sdfile (values m is name vs) xs i = refused 19 i 1

-- a molfile may end after its `M  END`
abbrev pub end_molfile : Place → ℕ → Verdict (List Raw)
end_molfile first i = refused 19 i 1
end_molfile (second h₁) i = refused 19 i 1
end_molfile (third h₁ h₂) i = refused 19 i 1
end_molfile (counts hs) i = refused 19 i 1
end_molfile (atoms hs c k ys) i = refused 19 i 1
end_molfile (bonds hs c ys k bs) i = refused 19 i 1
end_molfile (properties hs c ys bs ps) i = refused 19 i 1
end_molfile (over m) i = accepted (record { molecule = m; items = [] } ∷ [])
end_molfile (items m is) i = refused 19 i 1
end_molfile (values m is name vs) i = refused 19 i 1

-- at the end of the complete lines, with what is unfinished after them
abbrev pub finish : FileKind → Place → List Raw → Bytes → ℕ → Verdict (List Raw)
finish molfile p xs [] i = end_molfile p i
finish molfile p xs (b ∷ bs) i = refused 19 i 1
finish sdfile p xs [] i = end_sdfile p xs i
finish sdfile p xs (b ∷ bs) i = refused 19 i 1

abbrev pub conclude : FileKind → Run → Bytes → ℕ → Verdict (List Raw)
conclude kind (at p xs) rest i = finish kind p xs rest i
conclude kind (stopped e i column) rest j = refused e i column

unfoldable pub verdict : FileKind → ℕ → Bytes → Verdict (List Raw)
verdict kind limit s = conclude kind (run kind limit first [] 1 (cut s).lines) (cut s).rest (suc (length (cut s).lines))
