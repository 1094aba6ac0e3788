-- One record from the front of a text, by the judge: for an SDfile the first record, up to its `$$$$` line; for a molfile the whole text.
use Rattle.std.specs.Prelude.{ℕ, suc, ◌+◌, ◌-◌, ◌≡◌, refl, List, [], ◌∷◌, length}
use Rattle.std.proofs.Common.{arith, sym, ap, ◌∙◌}
use Rattle.text.specs.Text.{Bytes, Line}
use Rattle.text.specs.Cut.{cut}
use Rattle.rules.specs.Record.{Raw, limit}
use Rattle.judge_line.specs.Got.{Got, got, bad}
use Rattle.judge_file.specs.Place.{FileKind, molfile, sdfile, turn_of}
use Rattle.judge_file.specs.Place.{Place, first, second, third, counts, atoms, bonds, properties, over, items, values, Turn, next, done}
use Rattle.judge_file.specs.Verdict.{Run, at, run, Verdict, accepted, finish, conclude, verdict}
use Rattle.judge_file.specs.One.{One, one_from, one_record}
use Rattle.judge_file.specs.From.{alone}
use Rattle.judge_file.specs.Runs.{run_next, run_stop}
use Rattle.judge_file.specs.Takes.{Takes}
use Rattle.judge_file.proofs.Takes.{turn_takes}
use Rattle.judge_file.specs.Sound.{Sound, sound_takes}
use Rattle.judge_file.specs.OneRun.{one_next, one_stop}
use Rattle.judge_file.proofs.OneRun.{one_done}

pub data Outcome : Type 0 where
  whole : Raw → ℕ → Outcome  -- the record, and how many lines it takes
  refused : ℕ → ℕ → ℕ → Outcome  -- number, line, column

-- cut short is 19 at the line after the last complete one
abbrev pub of_one : One → Outcome
of_one (One.whole x k rest) = whole x k
of_one (One.refused e i column) = refused e i column
of_one (One.short i) = refused 19 i 1

-- a molfile of so many lines; a good one has one record
abbrev pub of_verdict : ℕ → Verdict (List Raw) → Outcome
of_verdict k (accepted []) = refused 19 (suc k) 1
of_verdict k (accepted (x ∷ xs)) = whole x k
of_verdict k (Verdict.refused e i column) = refused e i column

unfoldable pub outcome_of : FileKind → Bytes → Outcome
outcome_of molfile s = of_verdict (length (cut s).lines) (verdict molfile limit s)
outcome_of sdfile s = of_one (one_record limit (cut s).lines)

-- ---- The same, line by line

-- where the lines end, before line i: a molfile may end after its `M  END`
abbrev pub end_at : FileKind → Place → Bytes → ℕ → Outcome
end_at sdfile p rest i = refused 19 i 1
end_at molfile p (b ∷ rest) i = refused 19 i 1
end_at molfile first [] i = refused 19 i 1
end_at molfile (second h₁) [] i = refused 19 i 1
end_at molfile (third h₁ h₂) [] i = refused 19 i 1
end_at molfile (counts hs) [] i = refused 19 i 1
end_at molfile (atoms hs c k ys) [] i = refused 19 i 1
end_at molfile (bonds hs c ys k bs) [] i = refused 19 i 1
end_at molfile (properties hs c ys bs ps) [] i = refused 19 i 1
end_at molfile (over m) [] i = whole (alone m) (i - 1)
end_at molfile (items m is) [] i = refused 19 i 1
end_at molfile (values m is name vs) [] i = refused 19 i 1

-- from a place, at line i, with these lines and the unfinished rest left
unfoldable pub record_from : FileKind → Place → ℕ → List Line → Bytes → Outcome
record_from kind p i [] rest = end_at kind p rest i
record_from kind p i (l ∷ ls) rest = elim (turn_of kind limit p l) [
  | got t ↦ elim t [ next q ↦ record_from kind q (suc i) ls rest | done x ↦ whole x i ]
  | bad e column ↦ refused e i column
]

module _ (kind : FileKind) where
  pub from_next : (p q : Place) (i : ℕ) (l : Line) (ls : List Line) (rest : Bytes) → turn_of kind limit p l ≡ got (next q) →
      record_from kind p i (l ∷ ls) rest ≡ record_from kind q (suc i) ls rest
  unfolding record_from
  from_next p q i l ls rest e = rw (e, record_from)

  pub from_done : (p : Place) (x : Raw) (i : ℕ) (l : Line) (ls : List Line) (rest : Bytes) → turn_of kind limit p l ≡ got (done x) →
      record_from kind p i (l ∷ ls) rest ≡ whole x i
  unfolding record_from
  from_done p x i l ls rest e = rw (e, record_from)

  pub from_bad : (p : Place) (i : ℕ) (l : Line) (ls : List Line) (rest : Bytes) (e column : ℕ) → turn_of kind limit p l ≡ bad e column →
      record_from kind p i (l ∷ ls) rest ≡ refused e i column
  unfolding record_from
  from_bad p i l ls rest e column h = rw (h, record_from)

-- ---- It is the same

sd_from : (p : Place) (i : ℕ) (ls : List Line) (rest : Bytes) → of_one (one_from limit p i ls) ≡ record_from sdfile p i ls rest
unfolding one_from record_from
sd_from p i [] rest = refl
sd_from p i (l ∷ ls) rest = go (λ q. sd_from q (suc i) ls rest) (turn_of sdfile limit p l) refl
  where
    go : ((q : Place) → of_one (one_from limit q (suc i) ls) ≡ record_from sdfile q (suc i) ls rest) → (g : Got Turn) → turn_of sdfile limit p l ≡ g →
        of_one (one_from limit p i (l ∷ ls)) ≡ record_from sdfile p i (l ∷ ls) rest
    go r (got (next q)) e = ap of_one (one_next limit p q i l ls e) ∙ r q ∙ sym (from_next sdfile p q i l ls rest e)
    go r (got (done x)) e = ap of_one (one_done limit p x i l ls e) ∙ sym (from_done sdfile p x i l ls rest e)
    go r (bad n c) e = ap of_one (one_stop limit p i l ls n c e) ∙ sym (from_bad sdfile p i l ls rest n c e)

mol_end : (p : Place) (rest : Bytes) (k i : ℕ) → suc k ≡ i → of_verdict k (finish molfile p [] rest i) ≡ end_at molfile p rest i
mol_end p (b ∷ rest) k i e = refl
mol_end first [] k i e = refl
mol_end (second h₁) [] k i e = refl
mol_end (third h₁ h₂) [] k i e = refl
mol_end (counts hs) [] k i e = refl
mol_end (atoms hs c j ys) [] k i e = refl
mol_end (bonds hs c ys j bs) [] k i e = refl
mol_end (properties hs c ys bs ps) [] k i e = refl
mol_end (over m) [] k i e = ap (whole (alone m)) (omega arith)
mol_end (items m is) [] k i e = refl
mol_end (values m is name vs) [] k i e = refl

-- a molfile has no `$$$$` line
abbrev pub Open : Turn → Type 0
Open (next q) = Unit {0}
Open (done x) = ⊥

pub mol_open : {p : Place} {l : Line} {t : Turn} → Takes molfile limit p l t → Sound molfile limit p → Open t
mol_open (Takes.first_header h) s = tt
mol_open (Takes.second_header h) s = tt
mol_open (Takes.third_header h) s = tt
mol_open (Takes.counts_line h) s = tt
mol_open (Takes.atom_line_lem h) s = tt
mol_open (Takes.bond_line_lem h new) s = tt
mol_open (Takes.property_line h new) s = tt
mol_open (Takes.end_line h) s = tt
mol_open (Takes.data_header h) s = tt
mol_open (Takes.record_end h) s = s
mol_open (Takes.value_line h) s = tt
mol_open (Takes.blank_line h) s = tt

mol_from : (p : Place) (i k : ℕ) (ls : List Line) (rest : Bytes) → Sound molfile limit p → suc k ≡ i + length ls →
    of_verdict k (conclude molfile (run molfile limit p [] i ls) rest (i + length ls)) ≡ record_from molfile p i ls rest
unfolding run record_from
mol_from p i k [] rest s e = let n : i + 0 ≡ i = omega arith in rw n (mol_end p rest k i (omega arith))
mol_from p i k (l ∷ ls) rest s e = go (λ q s. mol_from q (suc i) k ls rest s (omega arith)) (turn_of molfile limit p l) refl
  where
    Out : Run → Outcome
    Out r = of_verdict k (conclude molfile r rest (i + suc (length ls)))

    go : ((q : Place) → Sound molfile limit q →
        of_verdict k (conclude molfile (run molfile limit q [] (suc i) ls) rest (suc i + length ls)) ≡ record_from molfile q (suc i) ls rest) →
        (g : Got Turn) → turn_of molfile limit p l ≡ g → Out (run molfile limit p [] i (l ∷ ls)) ≡ record_from molfile p i (l ∷ ls) rest
    go r (got (next q)) e =
        let n : i + suc (length ls) ≡ suc i + length ls = omega arith in
        ap Out (run_next molfile limit p q [] i l ls e)
        ∙ ap (λ (j : ℕ). of_verdict k (conclude molfile (run molfile limit q [] (suc i) ls) rest j)) n
        ∙ r q (sound_takes molfile limit s (turn_takes molfile limit p l (next q) e))
        ∙ sym (from_next molfile p q i l ls rest e)
    go r (got (done x)) e = absurd (mol_open (turn_takes molfile limit p l (done x) e) s)
    go r (bad n c) e = ap Out (run_stop molfile limit p [] i l ls n c e) ∙ sym (from_bad molfile p i l ls rest n c e)

pub outcome_from : (kind : FileKind) (s : Bytes) → outcome_of kind s ≡ record_from kind first 1 (cut s).lines (cut s).rest
unfolding outcome_of verdict one_record
outcome_from molfile s =
    let n : suc (length (cut s).lines) ≡ 1 + length (cut s).lines = omega arith in
    ap (λ (j : ℕ). of_verdict (length (cut s).lines) (conclude molfile (run molfile limit first [] 1 (cut s).lines) (cut s).rest j)) n
    ∙ mol_from first 1 (length (cut s).lines) (cut s).lines (cut s).rest tt (omega arith)
outcome_from sdfile s = sd_from first 1 (cut s).lines (cut s).rest
