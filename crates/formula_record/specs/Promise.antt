-- The promise of a comparison, in the words of the rules.
use Rattle.std.specs.Prelude.{Result, Ok, Err, ℕ, ◌≤◌, ◌≡◌, List, [], ◌∷◌, length, ℤ}
use Rattle.text.specs.Text.{Bytes, Line, Each}
use Rattle.rules.specs.Record.{Raw}
use Rattle.judge_file.specs.Place.{sdfile}
use Rattle.judge_file.specs.Verdict.{Verdict, accepted, refused, mapped}
use Rattle.judge_refusals.specs.NoRecord.{NoRecord}
use Rattle.reader_item.specs.Promise.{NoneNamed}
use Rattle.reader_item.specs.Beyond.{FirstNamed}
use Rattle.reader_answer.specs.declared.RecordRead.{RecordRead}
use Rattle.reader_answer.specs.Promise.{Begins, Roomy, ReadPromise}
use Rattle.formula_rules.specs.Formula.{elements, Trees}
use Rattle.formula_rules.specs.Total.{count_trees}
use Rattle.formula_rules.specs.Verdict.{counts, Judged, differences}
use Rattle.formula_rules.specs.Verdict as W
use Rattle.formula_drawn.specs.Drawn.{how_many}
use Rattle.formula_record.specs.Said.{Said, formula_name, symbols, found_in}
use Rattle.judge_file.specs.declared.TextRefusal.{TextRefusal}

-- what an answer says: how many elements differ, or number, line and column of a refusal
abbrev pub numbers_of : Result ℕ TextRefusal → Verdict ℕ
numbers_of (Ok count) = accepted count
numbers_of (Err r) = refused r.no r.line r.column

abbrev pub OnlyElements : List ℕ → Type 0
OnlyElements ks = Each (λ k. k ≤ elements) ks

-- the record that the text begins with, its formula, and its atoms
pub data Compares (s : Bytes) : Said → Type 0 where
  no_record : {e i column : ℕ} → NoRecord s e i column → Compares s (refused e i column)
  no_item : {x : Raw} → Begins sdfile s x → NoneNamed formula_name x.items → Compares s (refused 22 0 0)
  no_line : {x : Raw} → Begins sdfile s x → FirstNamed formula_name x.items [] → Compares s (refused 31 0 0)
  no_formula : {x : Raw} {l : Line} {vs : List Line} {n : ℕ} → Begins sdfile s x → FirstNamed formula_name x.items (l ∷ vs) → Judged l (W.refused n) →
      Compares s (refused n 0 0)
  not_comparable : {x : Raw} {l : Line} {vs : List Line} {ts : Trees} → Begins sdfile s x → FirstNamed formula_name x.items (l ∷ vs) → Judged l (counts ts) →
      ¬ OnlyElements (symbols x.molecule.atoms) → Compares s (refused 34 0 0)
  compared : {x : Raw} {l : Line} {vs : List Line} {ts : Trees} → Begins sdfile s x → FirstNamed formula_name x.items (l ∷ vs) → Judged l (counts ts) →
      OnlyElements (symbols x.molecule.atoms) → Compares s (accepted (differences (count_trees ts) (how_many (symbols x.molecule.atoms))))

-- The tables are as a reading of the record leaves them. Without room nothing changes; with room the list is what is said, zeros behind it, and after a refusal all zeros.
pub record ComparePromise (s : Bytes) (ta tb : List ℤ) (f : List ℕ) (r : Result ℕ TextRefusal) (ta' tb' : List ℤ) (f' : List ℕ) : Type 0 where
  pub tables : (q : RecordRead) × ReadPromise 1 s ta tb q ta' tb'
  pub no_room : ¬ Roomy ta tb → (numbers_of r ≡ refused 2 0 0) × (f' ≡ f)
  pub compares : Roomy ta tb → (w : Said) × Compares s w × (numbers_of r ≡ mapped length w) × (f' ≡ found_in w)
