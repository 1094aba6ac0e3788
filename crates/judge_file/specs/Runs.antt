-- The judge's run over lines: what the rules let follow a place it takes to the end, and what it took may stand before what may follow then.
use Prim.Native.Nat.{ℕ, suc, ◌+◌}
use Rattle.std.specs.Prelude.{◌≡◌}
use Rattle.std.proofs.Math.Path.{refl}
use mathlib.Core.List.{List, [], ◌∷◌, ◌++◌}
use Rattle.std.proofs.Math.ListN.{length}
use native.Mathlib.Omega.{arith}
use Rattle.text.specs.Text.{Line}
use Rattle.rules.specs.Record.{Molecule, Raw, SDfile}
use Rattle.rules.specs.PartLaws.{no_parts, no_atoms_lem, no_bonds, no_properties, no_items, no_values, no_record}
use Rattle.judge_line.specs.Got.{got, bad}
use Rattle.judge_file.specs.Place.{FileKind, molfile, sdfile, turn_of}
use Rattle.judge_file.specs.Place.{Place, first, second, third, counts, atoms, bonds, properties, over, items, values, next}
use Rattle.judge_file.specs.Verdict.{at, stopped, run}
use Rattle.judge_file.specs.From.{alone, FromFirst, FromOver, From}

-- ---- Where a file may end

-- a file of the kind may end at the place, with these records not yet counted as finished
abbrev pub End : FileKind → Place → List Raw → Type 0
End molfile p rs = (m : Molecule) × (p ≡ over m) × (rs ≡ alone m ∷ [])
End sdfile p rs = (p ≡ first) × (rs ≡ [])

end_first : (kind : FileKind) (limit : ℕ) (rs : List Raw) → FromFirst kind limit [] rs → End kind first rs
end_first molfile limit rs f = no_parts f.1
end_first sdfile limit rs f = go f
  where
    go : {rs : List Raw} → SDfile limit [] rs → (first ≡ first) × (rs ≡ [])
    go SDfile.none = (refl, refl)
    go (SDfile.more r f) = no_record r

end_over : (kind : FileKind) (m : Molecule) (rs : List Raw) → FromOver kind m [] rs → End kind (over m) rs
end_over molfile m rs f = (m, refl, f.1)
end_over sdfile m rs f = absurd f

-- where no line follows, the file is at its end
pub at_end_lem : (kind : FileKind) (limit : ℕ) (p : Place) (rs : List Raw) → From kind limit p [] rs → End kind p rs
at_end_lem kind limit first rs f = end_first kind limit rs f
at_end_lem kind limit (second h₁) rs f = absurd f
at_end_lem kind limit (third h₁ h₂) rs f = absurd f
at_end_lem kind limit (counts hs) rs f = absurd f
at_end_lem kind limit (atoms hs c k xs) rs f = no_atoms_lem f.here
at_end_lem kind limit (bonds hs c xs k bs) rs f = no_bonds f.here
at_end_lem kind limit (properties hs c xs bs ps) rs f = no_properties f.here
at_end_lem kind limit (over m) rs f = end_over kind m rs f
at_end_lem kind limit (items m is) rs f = no_items f.here
at_end_lem kind limit (values m is name vs) rs f = no_values f.here

-- ---- A run, line by line

pub at_stopped : {X : Type 0} {p : Place} {xs : List Raw} {e i c : ℕ} → at p xs ≡ stopped e i c → X
at_stopped h = let z : ◌≡◌ {A = ℕ} 0 1 = cc in absurd (omega arith)

pub at_place : {p q : Place} {xs ys : List Raw} → at p xs ≡ at q ys → p ≡ q
at_place h = cc

pub at_records : {p q : Place} {xs ys : List Raw} → at p xs ≡ at q ys → xs ≡ ys
at_records h = cc

module _ (kind : FileKind) (limit : ℕ) where
  pub run_next : (p q : Place) (xs : List Raw) (i : ℕ) (l : Line) (t : List Line) →
      turn_of kind limit p l ≡ got (next q) → run kind limit p xs i (l ∷ t) ≡ run kind limit q xs (suc i) t
  unfolding run
  run_next p q xs i l t e = rw (e, run)

  pub run_stop : (p : Place) (xs : List Raw) (i : ℕ) (l : Line) (t : List Line) (e c : ℕ) →
      turn_of kind limit p l ≡ bad e c → run kind limit p xs i (l ∷ t) ≡ stopped e i c
  unfolding run
  run_stop p xs i l t e c h = rw (h, run)

  -- ---- What the rules let follow, the run takes to the end

  pub record Complete (p : Place) (xs : List Raw) (i : ℕ) (t : List Line) (rs : List Raw) : Type 0 where
    pub q : Place
    pub ys : List Raw
    pub zs : List Raw
    pub is : run kind limit p xs i t ≡ at q (xs ++ ys)
    pub ends : End kind q zs
    pub all : rs ≡ ys ++ zs

  -- ---- And back

  -- what may follow where a run over lines ends, may follow its lines where it began
  pub record Rewound (p : Place) (xs : List Raw) (s : List Line) (ys : List Raw) (t : List Line) (rs : List Raw) : Type 0 where
    pub zs : List Raw
    pub all : xs ++ zs ≡ ys ++ rs
    pub from : From kind limit p (s ++ t) zs

  -- ---- Runs in a row, and where a run stops

  pub record Stop (p : Place) (xs : List Raw) (i : ℕ) (t : List Line) (e k c : ℕ) : Type 0 where
    pub before : List Line
    pub l : Line
    pub after : List Line
    pub q : Place
    pub ys : List Raw
    pub whole : t ≡ before ++ (l ∷ after)
    pub line : k ≡ i + length before
    pub reached : run kind limit p xs i before ≡ at q ys
    pub refused : turn_of kind limit q l ≡ bad e c
