-- The answer of the split of a record: what the array holds, and what it tells in the words of the rules.
use Rattle.std.specs.Prelude.{ℕ, ◌≤◌, ◌≡◌, List, [], ◌∷◌, ℤ}
use Rattle.std.proofs.Common.{arith, sym, ◌∙◌, subst}
use Rattle.std.proofs.Math.Path.{refl, ap}
use Rattle.text.specs.Text.{Bytes}
use Rattle.judge_file.specs.SameVerdict.{accepted_refused, same_numbers}
use Rattle.reader_answer.specs.declared.RecordRead.{RecordRead}
use Rattle.reader_answer.specs.Promise.{ReadPromise}
use Rattle.reader_answer.specs.Promise as R
use Rattle.piece_record.specs.declared.RecordSplit.{RecordSplit}
use Rattle.piece_record.specs.Promise.{Lists, SplitPromise}
use Rattle.piece_record.specs.Promised.{found}
use Rattle.capellanote.specs.Answer.{number, by_first, first_refused}
use Rattle.capellanote.specs.Read.{read_numbered}

-- 0, atoms, pieces
unfoldable pub split_numbers : RecordSplit → List ℕ
split_numbers (RecordSplit.Pieces atoms count) = 0 ∷ (atoms ∷ (count ∷ []))
split_numbers (RecordSplit.Refused e i column) = e ∷ (i ∷ (column ∷ []))

-- what an array tells
unfoldable pub split_told : List ℕ → RecordSplit
split_told a = by_first (number a 0) (RecordSplit.Pieces (number a 1) (number a 2)) (λ e. RecordSplit.Refused e (number a 1) (number a 2))

-- ---- The array, of the answer

module _ (x : RecordSplit) where
  pub split_pieces : (atoms count : ℕ) → x ≡ RecordSplit.Pieces atoms count → 0 ∷ (atoms ∷ (count ∷ [])) ≡ split_numbers x
  unfolding split_numbers
  split_pieces atoms count e = ap split_numbers (sym e)

  pub split_refused : (e i column : ℕ) → x ≡ RecordSplit.Refused e i column → e ∷ (i ∷ (column ∷ [])) ≡ split_numbers x
  unfolding split_numbers
  split_refused e i column h = ap split_numbers (sym h)

pub ruleset split_array = (split_pieces, split_refused)

-- ---- It tells that answer, since no refusal has the number 0

module _ (kind : ℕ) (s : Bytes) (ta tb : List ℤ) (was : Lists) (ta' tb' : List ℤ) (after : Lists) where
  abbrev Promised : RecordSplit → Type 0
  Promised r = SplitPromise kind s ta tb was r ta' tb' after

  split_numbered : (e i column : ℕ) → Promised (RecordSplit.Refused e i column) → 1 ≤ e
  split_numbered e i column p = go p.reading refl
    where
      at : (d : RecordRead) → p.reading ≡ d → ReadPromise kind s ta tb d ta' tb'
      at d h = subst (λ (z : RecordRead). ReadPromise kind s ta tb z ta' tb') h p.reads

      go : (d : RecordRead) → p.reading ≡ d → 1 ≤ e
      go (RecordRead.Read n m chiral len lines h a b) q =
          let f = found kind s ta tb ta' tb' n m chiral len lines h a b (at (RecordRead.Read n m chiral len lines h a b) q) in
          accepted_refused (sym (p.splits f.k f.is f.room f.x f.begins).answer)
      go (RecordRead.Refused e' i' column') q =
          let z = same_numbers (p.refuses e' i' column' (ap R.numbers_of q)).0 in
          omega (arith, z.0, read_numbered kind s ta tb e' i' column' ta' tb' (at (RecordRead.Refused e' i' column') q))

  tells : (r : RecordSplit) → Promised r → split_told (split_numbers r) ≡ r
  unfolding split_numbers split_told
  tells (RecordSplit.Pieces atoms count) p = refl
  tells (RecordSplit.Refused e i column) p =
      first_refused e (RecordSplit.Pieces i column) (λ (n : ℕ). RecordSplit.Refused n i column) (split_numbered e i column p)

  pub pieces_told : (r : RecordSplit) (out : List ℕ) → out ≡ split_numbers r → Promised r → (out ≡ split_numbers (split_told out)) × Promised (split_told out)
  pieces_told r out e p =
      let is : split_told out ≡ r = ap split_told e ∙ tells r p in
      (e ∙ ap split_numbers (sym is), subst Promised (sym is) p)
