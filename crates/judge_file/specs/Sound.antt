-- What holds at every place that the judge reaches: room for the bonds still owed, and nothing twice among what was read.
use Prim.Native.Nat.{ℕ, zero, suc, ◌+◌, ◌*◌, ◌-◌, ◌≤◌}
use Rattle.std.specs.Prelude.{◌≡◌, length}
use Rattle.std.proofs.Common.{subst, length-append, arith}
use mathlib.Core.List.{List, [], ◌∷◌, ◌++◌}
use Rattle.std.proofs.Math.Nat.{zero-add}
use Rattle.text.specs.Text.{Line}
use Rattle.rules.specs.Forms.{Counts, Atom, Bond, Kind, Property}
use Rattle.rules.specs.Record.{Headers, Molecule, NewPair, listed, NoPairTwice, NoAtomTwice}
use Rattle.judge_file.specs.Place.{FileKind, molfile, sdfile, to_atoms, to_bonds, after_end}
use Rattle.judge_file.specs.Place.{Place, first, second, third, counts, atoms, bonds, properties, over, items, values, Turn, next, done}
use Rattle.judge_file.specs.Takes.{Takes}
use Rattle.judge_file.specs.Twice.{pair_after, entries_after}

-- so many bonds, or fewer, find room among the atoms
pub record Room (limit : ℕ) (c : Counts) (m : ℕ) : Type 0 where
  pub few : c.atoms ≤ limit
  pub pairs : 2 * m ≤ c.atoms * (c.atoms - 1)

pub record SoundBonds (limit : ℕ) (c : Counts) (k : ℕ) (bs : List Bond) : Type 0 where
  pub room : Room limit c (length bs + k)
  pub once : NoPairTwice bs

pub record SoundProperties (bs : List Bond) (ps : List Property) : Type 0 where
  pub pairs : NoPairTwice bs
  pub atoms : (k : Kind) → NoAtomTwice (listed k ps)

-- a molfile has no items; in an SDfile they follow `M  END`
abbrev pub SoundOver : FileKind → Type 0
SoundOver molfile = Unit {0}
SoundOver sdfile = ⊥

abbrev pub SoundItems : FileKind → Type 0
SoundItems molfile = ⊥
SoundItems sdfile = Unit {0}

abbrev pub Sound : FileKind → ℕ → Place → Type 0
Sound kind limit first = Unit {0}
Sound kind limit (second h₁) = Unit {0}
Sound kind limit (third h₁ h₂) = Unit {0}
Sound kind limit (counts hs) = Unit {0}
Sound kind limit (atoms hs c k xs) = Room limit c c.bonds
Sound kind limit (bonds hs c xs k bs) = SoundBonds limit c (suc k) bs
Sound kind limit (properties hs c xs bs ps) = SoundProperties bs ps
Sound kind limit (over m) = SoundOver kind
Sound kind limit (items m is) = SoundItems kind
Sound kind limit (values m is name vs) = SoundItems kind

abbrev pub SoundTurn : FileKind → ℕ → Turn → Type 0
SoundTurn kind limit (next q) = Sound kind limit q
SoundTurn kind limit (done x) = Unit {0}

module _ (kind : FileKind) (limit : ℕ) where
  pub sound_bonds : (hs : Headers) (c : Counts) (xs : List Atom) (k : ℕ) (bs : List Bond) → SoundBonds limit c k bs → Sound kind limit (to_bonds hs c xs k bs)
  unfolding to_bonds listed NoAtomTwice
  sound_bonds hs c xs zero bs s = record { pairs = s.once; atoms = λ k. tt }
  sound_bonds hs c xs (suc k) bs s = s

  pub sound_none : (c : Counts) → Room limit c c.bonds → SoundBonds limit c c.bonds []
  unfolding NoPairTwice
  sound_none c r = record { room = rw zero-add r; once = tt }

  pub sound_atoms : (hs : Headers) (c : Counts) (k : ℕ) (xs : List Atom) → Room limit c c.bonds → Sound kind limit (to_atoms hs c k xs)
  unfolding to_atoms
  sound_atoms hs c zero xs r = sound_bonds hs c xs c.bonds [] (sound_none c r)
  sound_atoms hs c (suc k) xs r = r

  sound_end : (m : Molecule) → Sound kind limit (after_end kind m)
  sound_end m = go kind
    where
      go : (k : FileKind) → Sound k limit (after_end k m)
      go molfile = tt
      go sdfile = tt

  pub sound_bond : (c : Counts) (k : ℕ) (bs : List Bond) (b : Bond) → SoundBonds limit c (suc k) bs → NewPair b bs → SoundBonds limit c k (bs ++ (b ∷ []))
  sound_bond c k bs b s new =
      let e : length bs + suc k ≡ length (bs ++ (b ∷ [])) + k = omega (arith, length-append bs (b ∷ [])) in
      record { room = subst (Room limit c) e s.room; once = pair_after b bs s.once new }

  -- each turn keeps it
  pub sound_takes : {p : Place} {l : Line} {t : Turn} → Sound kind limit p → Takes kind limit p l t → SoundTurn kind limit t
  sound_takes s (Takes.first_header h) = tt
  sound_takes s (Takes.second_header h) = tt
  sound_takes s (Takes.third_header h) = tt
  sound_takes s (Takes.counts_line {hs = hs} {c = c} h) = sound_atoms hs c c.atoms [] (record { few = h.atoms.high; pairs = h.pairs })
  sound_takes s (Takes.atom_line_lem {hs = hs} {c = c} {k = k} {xs = xs} {a = a} h) = sound_atoms hs c k (xs ++ (a ∷ [])) s
  sound_takes s (Takes.bond_line_lem {hs = hs} {c = c} {xs = xs} {k = k} {bs = bs} {b = b} h new) =
      sound_bonds hs c xs k (bs ++ (b ∷ [])) (sound_bond c k bs b s new)
  sound_takes s (Takes.property_line {ps = ps} {p = p} h new) = record { pairs = s.pairs; atoms = entries_after p ps s.atoms new }
  sound_takes s (Takes.end_line h) = sound_end _
  sound_takes s (Takes.data_header h) = s
  sound_takes s (Takes.record_end h) = tt
  sound_takes s (Takes.value_line h) = s
  sound_takes s (Takes.blank_line h) = s
