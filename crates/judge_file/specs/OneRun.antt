-- Reading one record is the run of an SDfile up to the end of its first record.
use Prim.Native.Nat.{ℕ, suc, ◌+◌}
use Rattle.std.specs.Prelude.{◌≡◌}
use mathlib.Core.List.{List, [], ◌∷◌, ◌++◌}
use Rattle.std.proofs.Math.ListN.{length}
use Rattle.text.specs.Text.{Line}
use Rattle.rules.specs.Record.{Raw}
use Rattle.judge_line.specs.Got.{got, bad}
use Rattle.judge_file.specs.Place.{Place, first, sdfile, next, turn_of}
use Rattle.judge_file.specs.Verdict.{at, run}
use Rattle.judge_file.specs.One.{One, whole, refused, short, one_from}

module _ (limit : ℕ) where
  pub one_next : (p q : Place) (i : ℕ) (l : Line) (t : List Line) → turn_of sdfile limit p l ≡ got (next q) → one_from limit p i (l ∷ t) ≡ one_from limit q (suc i) t
  unfolding one_from
  one_next p q i l t e = rw (e, one_from)

  pub one_stop : (p : Place) (i : ℕ) (l : Line) (t : List Line) (e c : ℕ) → turn_of sdfile limit p l ≡ bad e c → one_from limit p i (l ∷ t) ≡ refused e i c
  unfolding one_from
  one_stop p i l t e c h = rw (h, one_from)

  -- The run of an SDfile over the same lines, after records xs and from line i, beside what was found; the record's lines count from j
  abbrev pub Same : Place → List Raw → ℕ → ℕ → List Line → One → Type 0
  Same p xs i j ls (whole x k rest) =
      (before : List Line) × (ls ≡ before ++ rest) × (k + 1 ≡ j + length before) × (run sdfile limit p xs i before ≡ at first (xs ++ (x ∷ [])))
  Same p xs i j ls (refused e k c) =
      (before : List Line) × (l : Line) × (after : List Line) × (q : Place) × (ls ≡ before ++ (l ∷ after)) × (k ≡ j + length before)
      × (run sdfile limit p xs i before ≡ at q xs) × (turn_of sdfile limit q l ≡ bad e c)
  Same p xs i j ls (short k) = (q : Place) × (k ≡ j + length ls) × (run sdfile limit p xs i ls ≡ at q xs)

  -- ---- A run that ends with one record more, read as one record whatever follows

  pub record Follows (p : Place) (j : ℕ) (before rest : List Line) (x : Raw) : Type 0 where
    pub k : ℕ
    pub lines : k + 1 ≡ j + length before
    pub is : one_from limit p j (before ++ rest) ≡ whole x k rest
