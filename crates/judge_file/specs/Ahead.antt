-- From every place that the judge reaches, a file can be finished.
use Prim.Native.Nat.{ℕ, zero, suc, ◌≤◌}
use Rattle.std.proofs.Math.Path.{refl}
use mathlib.Core.List.{List, [], ◌∷◌, ◌++◌}
use Rattle.std.proofs.Common.{arith}
use Rattle.text.specs.Text.{Line, bytes}
use Rattle.rules.specs.Forms.{Counts, Atom, Bond, Property}
use Rattle.rules.specs.Record.{Headers, Molecule, Item, Raw, SDfile}
use Rattle.judge_pairs.proofs.Free.{free_pair}
use Rattle.judge_file.specs.Place.{FileKind, molfile, sdfile, to_atoms, to_bonds, after_end}
use Rattle.judge_file.specs.Place.{Place, first, second, third, counts, atoms, bonds, properties, over, items, values, next}
use Rattle.judge_file.specs.Takes.{Takes}
use Rattle.judge_file.specs.Sound.{Room, SoundBonds, SoundProperties, Sound, sound_none, sound_bonds, sound_bond}
use Rattle.judge_file.specs.From.{alone, From}
use Rattle.judge_file.specs.Backward.{backward}
use Rattle.judge_file.specs.Witness.{empty_header, no_atoms, counts_line, carbon, atom_line_lem, end_line, record_end, blank_line, single, bond_line_lem}

-- some lines finish a file from the place, with one record more
pub record Ahead (kind : FileKind) (limit : ℕ) (p : Place) : Type 0 where
  pub t : List Line
  pub x : Raw
  pub from : From kind limit p t (x ∷ [])

module _ (kind : FileKind) (limit : ℕ) (small : limit ≤ 999) where
  -- one line more
  ahead_by : {p : Place} {l : Line} {q : Place} → Sound kind limit p → Takes kind limit p l (next q) → Ahead kind limit q → Ahead kind limit p
  ahead_by {l = l} s h a = record { t = l ∷ a.t; x = a.x; from = backward kind limit a.t (a.x ∷ []) s h a.from }

  -- ---- Parts 1 to 5, where a file can be finished after `M  END`
  module _ (after : (m : Molecule) → Ahead kind limit (after_end kind m)) where
    ahead_properties : (hs : Headers) (c : Counts) (xs : List Atom) (bs : List Bond) (ps : List Property) → SoundProperties bs ps →
        Ahead kind limit (properties hs c xs bs ps)
    ahead_properties hs c xs bs ps s = ahead_by s (Takes.end_line end_line) (after _)

    ahead_bonds : (hs : Headers) (c : Counts) (xs : List Atom) (k : ℕ) (bs : List Bond) → SoundBonds limit c k bs → Ahead kind limit (to_bonds hs c xs k bs)
    unfolding to_bonds
    ahead_bonds hs c xs zero bs s = ahead_properties hs c xs bs [] (sound_bonds kind limit hs c xs zero bs s)
    ahead_bonds hs c xs (suc k) bs s =
        let f = free_pair c.atoms bs (omega (arith, s.room.pairs)) in
        let b = single f.x f.y in
        let few : c.atoms ≤ 999 = omega (arith, s.room.few) in
        let new = f.new b refl refl in
        ahead_by s (Takes.bond_line_lem (bond_line_lem c.atoms f.x f.y few f.x_low f.x_high f.y_low f.y_high f.differ) new)
        (ahead_bonds hs c xs k (bs ++ (b ∷ [])) (sound_bond kind limit c k bs b s new))

    ahead_atoms : (hs : Headers) (c : Counts) (k : ℕ) (xs : List Atom) → Room limit c c.bonds → Ahead kind limit (to_atoms hs c k xs)
    unfolding to_atoms
    ahead_atoms hs c zero xs r = ahead_bonds hs c xs c.bonds [] (sound_none kind limit c r)
    ahead_atoms hs c (suc k) xs r = ahead_by r (Takes.atom_line_lem (atom_line_lem c.atoms)) (ahead_atoms hs c k (xs ++ (carbon ∷ [])) r)

    ahead_counts : (hs : Headers) → Ahead kind limit (counts hs)
    ahead_counts hs = ahead_by tt (Takes.counts_line (counts_line limit)) (ahead_atoms hs no_atoms 0 [] (record { few = omega arith; pairs = omega arith }))

    ahead_third : (h₁ h₂ : Line) → Ahead kind limit (third h₁ h₂)
    ahead_third h₁ h₂ = ahead_by tt (Takes.third_header empty_header.line) (ahead_counts _)

    ahead_second : (h₁ : Line) → Ahead kind limit (second h₁)
    ahead_second h₁ = ahead_by tt (Takes.second_header empty_header.line) (ahead_third h₁ [])

    ahead_first : Ahead kind limit first
    ahead_first = ahead_by {p = first} tt (Takes.first_header empty_header) (ahead_second [])

-- ---- After `M  END`

ahead_over : (limit : ℕ) (m : Molecule) → Ahead molfile limit (over m)
ahead_over limit m = record { t = []; x = alone m; from = (refl, refl) }

ahead_items : (limit : ℕ) (m : Molecule) (is : List Item) → Ahead sdfile limit (items m is)
ahead_items limit m is =
    let r : Raw = record { molecule = m; items = is } in
    record { t = bytes "$$$$" ∷ []; x = r; from = backward sdfile limit [] (r ∷ []) tt (Takes.record_end record_end) ([], SDfile.none, refl) }

ahead_end : (kind : FileKind) (limit : ℕ) (m : Molecule) → Ahead kind limit (after_end kind m)
ahead_end molfile limit m = ahead_over limit m
ahead_end sdfile limit m = ahead_items limit m []

over_only : (kind : FileKind) (limit : ℕ) (m : Molecule) → Sound kind limit (over m) → Ahead kind limit (over m)
over_only molfile limit m s = ahead_over limit m
over_only sdfile limit m s = absurd s

items_only : (kind : FileKind) (limit : ℕ) (m : Molecule) (is : List Item) → Sound kind limit (items m is) → Ahead kind limit (items m is)
items_only molfile limit m is s = absurd s
items_only sdfile limit m is s = ahead_items limit m is

pub ahead : (kind : FileKind) (limit : ℕ) → limit ≤ 999 → (p : Place) → Sound kind limit p → Ahead kind limit p
unfolding to_atoms to_bonds
ahead kind limit small first s = ahead_first kind limit small (ahead_end kind limit)
ahead kind limit small (second h₁) s = ahead_second kind limit small (ahead_end kind limit) h₁
ahead kind limit small (third h₁ h₂) s = ahead_third kind limit small (ahead_end kind limit) h₁ h₂
ahead kind limit small (counts hs) s = ahead_counts kind limit small (ahead_end kind limit) hs
ahead kind limit small (atoms hs c k xs) s = ahead_atoms kind limit small (ahead_end kind limit) hs c (suc k) xs s
ahead kind limit small (bonds hs c xs k bs) s = ahead_bonds kind limit small (ahead_end kind limit) hs c xs (suc k) bs s
ahead kind limit small (properties hs c xs bs ps) s = ahead_properties kind limit small (ahead_end kind limit) hs c xs bs ps s
ahead kind limit small (over m) s = over_only kind limit m s
ahead kind limit small (items m is) s = items_only kind limit m is s
ahead kind limit small (values m is name vs) s = ahead_by kind limit small s (Takes.blank_line blank_line) (items_only kind limit m _ s)
