-- Straight-line stores are a run of numbers.
use Prim.Native.Nat.{ℕ, suc, ◌+◌, ◌≤◌}
use native.Mathlib.Omega.{arith}
use mathlib.Core.Path.{◌≡◌, sym, ap, ◌∙◌}
use mathlib.Core.List.{List, [], ◌∷◌, ◌++◌}
use lib.ListN.{set}
use lib.Seq.{sets}
use lib.IntN.{ℤ, pos}
use mir.Val.{SFits, to_z, of_z}
use mir.Syntax.{w32}
use mir.Facts.{to_z_pos}
use Rattle.text.specs.Laws.{sets_append}
use Rattle.line_fields.specs.Steps.{hop}
use Rattle.line_atom.specs.Answer.{atom_is}
use Rattle.line_atom.specs.declared.Atom.{Atom}
use Rattle.reader_tables.specs.Row.{raw_row}
use Rattle.reader_tables.specs.RowParts.{place_row, codes_row, rest_row}

-- a signed number as a local holds it
abbrev pub held : ℤ → ℤ
held z = to_z w32 (of_z w32 z)

-- a number cast to i32
abbrev pub cast : ℕ → ℤ
cast k = to_z w32 k

same : (k : ℕ) → k ≤ 999 → cast k ≡ pos k
same k h = to_z_pos w32 {n = k} (omega arith)

module _ (t : List ℤ) (at : ℕ) where
  one : at + 1 ≡ suc at
  one = omega arith

  two : at + 2 ≡ suc (suc at)
  two = omega arith

  three : at + 3 ≡ suc (suc (suc at))
  three = omega arith

  four : at + 4 ≡ suc (suc (suc (suc at)))
  four = omega arith

  five : at + 5 ≡ suc (suc (suc (suc (suc at))))
  five = omega arith

  six : at + 6 ≡ suc (suc (suc (suc (suc (suc at)))))
  six = omega arith

  pub place_stored : (x y z : ℤ) (symbol : ℕ) → SFits w32 x → SFits w32 y → SFits w32 z → symbol ≤ 999 →
      set (set (set (set t at (held x)) (at + 1) (held y)) (at + 2) (held z)) (at + 3) (cast symbol) ≡ sets t at (x ∷ y ∷ z ∷ pos symbol ∷ [])
  place_stored x y z symbol fx fy fz h = rw (hop x fx, hop y fy, hop z fz, same symbol h, one, two, three)

  pub four_stored : (a b c d : ℤ) → SFits w32 a → SFits w32 b → SFits w32 c → SFits w32 d →
      set (set (set (set t at (held a)) (at + 1) (held b)) (at + 2) (held c)) (at + 3) (held d) ≡ sets t at (a ∷ b ∷ c ∷ d ∷ [])
  four_stored a b c d fa fb fc fd = rw (hop a fa, hop b fb, hop c fc, hop d fd, one, two, three)

  pub codes_stored : (mass : ℤ) (code parity hydrogens care : ℕ) → SFits w32 mass → code ≤ 999 → parity ≤ 999 → hydrogens ≤ 999 → care ≤ 999 →
      set (set (set (set (set (set (set t at (held mass)) (at + 1) (cast code)) (at + 2) (pos 0)) (at + 3) (pos 0)) (at + 4) (cast parity)) (at + 5) (cast hydrogens)) (at + 6) (cast care)
      ≡ sets t at (mass ∷ pos code ∷ pos 0 ∷ pos 0 ∷ pos parity ∷ pos hydrogens ∷ pos care ∷ [])
  codes_stored mass code parity hydrogens care f h i j k =
      rw (hop mass f, same code h, same parity i, same hydrogens j, same care k, one, two, three, four, five, six)

  pub rest_stored : (a b c d e : ℕ) → a ≤ 999 → b ≤ 999 → c ≤ 999 → d ≤ 999 → e ≤ 999 →
      set (set (set (set (set t at (cast a)) (at + 1) (cast b)) (at + 2) (cast c)) (at + 3) (cast d)) (at + 4) (cast e)
      ≡ sets t at (pos a ∷ pos b ∷ pos c ∷ pos d ∷ pos e ∷ [])
  rest_stored a b c d e h i j k l = rw (same a h, same b i, same c j, same d k, same e l, one, two, three, four)

  pub bond_stored_lem : (a b c d e : ℕ) (z : ℤ) → a ≤ 999 → b ≤ 999 → c ≤ 999 → d ≤ 999 → e ≤ 999 → SFits w32 z →
      set (set (set (set (set (set t at (cast a)) (at + 1) (cast b)) (at + 2) (cast c)) (at + 3) (cast d)) (at + 4) (cast e)) (at + 5) (held z)
      ≡ sets t at (pos a ∷ pos b ∷ pos c ∷ pos d ∷ pos e ∷ z ∷ [])
  bond_stored_lem a b c d e z h i j k l f = rw (hop z f) (rw five (ap (λ (u : List ℤ). set u (suc (suc (suc (suc (suc at))))) z) (rest_stored a b c d e h i j k l)))

  -- the parts of an atom's row, one after the other
  pub atom_stored_lem : (a : Atom) (t₁ t₂ t₃ : List ℤ) → t₁ ≡ sets t at (place_row a.place) → t₂ ≡ sets t₁ (at + 4) (codes_row a.codes) → t₃ ≡ sets t₂ (at + 11) (rest_row a) →
      t₃ ≡ sets t at (raw_row (atom_is a))
  atom_stored_lem a t₁ t₂ t₃ e f g =
      let p = place_row a.place in
      let q = codes_row a.codes in
      let v = rest_row a in
      g ∙ ap (λ (u : List ℤ). sets u (at + 11) v) (f ∙ ap (λ (u : List ℤ). sets u (at + 4) q) e ∙ sym (sets_append p q t at)) ∙ sym (sets_append (p ++ q) v t at)
