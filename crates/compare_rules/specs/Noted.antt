-- Laws of the lent list, as the code goes.
use Rattle.std.specs.Prelude.{ℕ, zero, suc, ◌+◌, ◌-◌, ◌*◌, ◌/◌, ◌^◌, ◌<◌, ◌≤◌, ◌≡◌, Bool, cond, ltb, length, set, ℤ, pos}
use Rattle.std.proofs.Common.{arith, sym, ap₂, ◌∙◌, SFits, of_z, to_z, to_z-of_z, lt-ltb, le-ltb}
use Rattle.std.proofs.Math.Path.{refl, ap}
use mathlib.Core.List.{List, [], ◌∷◌, ◌++◌}
use Rattle.std.proofs.Math.Bool.{true, false}
use Rattle.std.proofs.lemmas.List.Edits.{sets}
use Rattle.std.proofs.Math.Seq.{length-sets}
use Rattle.std.specs.Int.{w32, w64}
use Rattle.compare_rules.specs.declared.Place.{Place}
use Rattle.compare_rules.specs.declared.Count.{Count}
use Rattle.compare_rules.specs.Differences.{Difference, row, same_figure, figures}
use Rattle.compare_rules.specs.Same.{same_figure_lem, figure_self}
use Rattle.compare_rules.specs.Log.{Log, log, seen, up, put_at, one, noted}

pub set_past : (l : List ℤ) (i : ℕ) (v : ℤ) → length l ≤ i → l ≡ set l i v
set_past [] i v h = refl
set_past (x ∷ l) zero v h = absurd (omega arith)
set_past (x ∷ l) (suc i) v h = ap (λ (t : List ℤ). x ∷ t) (set_past l i v (omega arith))

pub up_more : (k : ℕ) → k < 2 ^ 60 → k + 1 ≡ up k
unfolding up
up_more k h = rw (lt-ltb k (2 ^ 60) h)

pub up_most : (k : ℕ) → 2 ^ 60 ≤ k → k ≡ up k
unfolding up
up_most k h = rw (le-ltb k (2 ^ 60) h)

pub noted_none : (g : Log) → g ≡ noted g []
unfolding noted
noted_none g = refl

pub noted_joined : (g : Log) (ds es : List Difference) → noted g (ds ++ es) ≡ noted (noted g ds) es
unfolding noted
noted_joined g [] es = refl
noted_joined g (d ∷ ds) es = noted_joined (one g.list g.count.skip g.count.seen d) ds es

put_length : (l : List ℤ) (k : ℕ) (t : List ℤ) → length (put_at l k t) ≡ length l
unfolding put_at
put_length l k t = go (ltb k (length l / 7))
  where
    go : (b : Bool) → length (cond b (sets l (7 * k) t) l) ≡ length l
    go true = length-sets l (7 * k) t
    go false = refl

one_length : (l : List ℤ) (s k : ℕ) (d : Difference) → length (one l s k d).list ≡ length l
one_length l zero k d = put_length l k (row d)
one_length l (suc s) k d = refl

pub noted_length : (g : Log) (ds : List Difference) → length (noted g ds).list ≡ length g.list
unfolding noted
noted_length g [] = refl
noted_length g (d ∷ ds) =
    noted_length (one g.list g.count.skip g.count.seen d) ds ∙ one_length g.list g.count.skip g.count.seen d

-- ---- One difference

pub put_skip : (l : List ℤ) (c : Count) (p : Place) (side : ℕ) (left right : ℤ) → 0 < c.skip →
    log l (record { skip = c.skip - 1; seen = c.seen }) ≡ noted (log l c) (record { at = p; side = side; left = left; right = right } ∷ [])
unfolding noted
put_skip l c p side left right h = go c.skip h
  where
    go : (s : ℕ) → 0 < s → log l (record { skip = s - 1; seen = c.seen }) ≡ one l s c.seen (record { at = p; side = side; left = left; right = right })
    go zero f = absurd (omega arith)
    go (suc s) f = let e : suc s - 1 ≡ s = omega arith in rw e

no_skip : (l : List ℤ) (s k : ℕ) (d : Difference) → s ≤ 0 → log (put_at l k (row d)) (seen (up k)) ≡ one l s k d
no_skip l zero k d h = refl
no_skip l (suc s) k d h = absurd (omega arith)

pub put_one : (l m : List ℤ) (c : Count) (r : ℕ) (p : Place) (side : ℕ) (left right v w : ℤ) → c.skip ≤ 0 → r ≡ up c.seen → v ≡ left → w ≡ right →
    m ≡ put_at l c.seen (row (record { at = p; side = side; left = v; right = w })) →
    log m (seen r) ≡ noted (log l c) (record { at = p; side = side; left = left; right = right } ∷ [])
unfolding noted
put_one l m c r p side left right v w z u i j e =
    ap₂ (λ (t : List ℤ) (k : ℕ). log t (seen k)) (e ∙ ap₂ (λ (x y : ℤ). put_at l c.seen (row (record { at = p; side = side; left = x; right = y }))) i j) u
    ∙ no_skip l c.skip c.seen (record { at = p; side = side; left = left; right = right }) z

pub put_full : (l : List ℤ) (k : ℕ) (t : List ℤ) → length l / 7 ≤ k → l ≡ put_at l k t
unfolding put_at
put_full l k t h = rw (le-ltb k (length l / 7) h)

pub put_room : (l : List ℤ) (k : ℕ) (d : Difference) → k < length l / 7 →
    {m₁ m₂ m₃ m₄ m₅ m₆ m : List ℤ} {v₁ v₂ v₃ v₄ v₅ v₆ v₇ : ℤ} →
    m₁ ≡ set l (7 * k) v₁ → v₁ ≡ pos d.at.position →
    m₂ ≡ set m₁ (7 * k + 1) v₂ → v₂ ≡ pos d.at.part →
    m₃ ≡ set m₂ (7 * k + 2) v₃ → v₃ ≡ pos d.at.index →
    m₄ ≡ set m₃ (7 * k + 3) v₄ → v₄ ≡ pos d.at.field →
    m₅ ≡ set m₄ (7 * k + 4) v₅ → v₅ ≡ pos d.side →
    m₆ ≡ set m₅ (7 * k + 5) v₆ → v₆ ≡ d.left →
    m ≡ set m₆ (7 * k + 6) v₇ → v₇ ≡ d.right →
    m ≡ put_at l k (row d)
unfolding put_at
put_room l k d h e₁ q₁ e₂ q₂ e₃ q₃ e₄ q₄ e₅ q₅ e₆ q₆ e₇ q₇ =
    let a : 7 * k + 1 ≡ suc (7 * k) = omega arith in
    let b : 7 * k + 2 ≡ suc (suc (7 * k)) = omega arith in
    let c : 7 * k + 3 ≡ suc (suc (suc (7 * k))) = omega arith in
    let f : 7 * k + 4 ≡ suc (suc (suc (suc (7 * k)))) = omega arith in
    let g : 7 * k + 5 ≡ suc (suc (suc (suc (suc (7 * k))))) = omega arith in
    let i : 7 * k + 6 ≡ suc (suc (suc (suc (suc (suc (7 * k)))))) = omega arith in
    rw (lt-ltb k (length l / 7) h, e₇, e₆, e₅, e₄, e₃, e₂, e₁, q₁, q₂, q₃, q₄, q₅, q₆, q₇, a, b, c, f, g, i)

pub row_fits : (l : List ℤ) (k i : ℕ) → length l * 8 < 2 ^ 63 → k < length l / 7 → i < 7 → 7 * k + i < 2 ^ 64
row_fits l k i h f g = omega arith

pub ruleset log_laws = (set_past, up_more, up_most, noted_none, put_skip, put_full)

-- ---- Signed numbers as bits

pub plain : (n : ℕ) → n < 2 ^ 63 → to_z w64 n ≡ pos n
plain n h = to_z-of_z {w = w64} {z = pos n} (record { sfits = h })

pub bits_one : (x y : ℤ) → SFits w32 x → SFits w32 y → of_z w32 x ≡ of_z w32 y → x ≡ y
bits_one x y f g e = sym (to_z-of_z f) ∙ ap (to_z w32) e ∙ to_z-of_z g

wide_fits : (z : ℤ) → SFits w32 z → SFits w64 z
wide_fits z f = record { sfits = omega (arith, f.sfits) }

pub wider : (z : ℤ) → SFits w32 z → SFits w64 (to_z w32 (of_z w32 z))
wider z f = rw (to_z-of_z f) (wide_fits z f)

pub wide_same : (z : ℤ) → SFits w32 z → to_z w64 (of_z w64 (to_z w32 (of_z w32 z))) ≡ z
wide_same z f = rw (to_z-of_z f) (to_z-of_z (wide_fits z f))

-- ---- Two figures

module _ (p : Place) (x y : ℤ) (f : SFits w32 x) (g : SFits w32 y) where
  pub figures_alike : (h : Log) → of_z w32 x ≡ of_z w32 y → h ≡ noted h (figures p x y)
  unfolding figures noted
  figures_alike h e = let s : same_figure x y ≡ true = ap (λ (z : ℤ). same_figure x z) (sym (bits_one x y f g e)) ∙ figure_self x in rw s

  pub figures_apart : (h k : Log) (v w : ℤ) → (of_z w32 x ≡ of_z w32 y → ⊥) → v ≡ x → w ≡ y →
      k ≡ noted h (record { at = p; side = 0; left = v; right = w } ∷ []) → k ≡ noted h (figures p x y)
  unfolding figures
  figures_apart h k v w e a b q = go (same_figure x y) refl
    where
      go : (t : Bool) → same_figure x y ≡ t → k ≡ noted h (cond t [] (record { at = p; side = 0; left = x; right = y } ∷ []))
      go true s = absurd (e (ap (of_z w32) (same_figure_lem x y s)))
      go false s = rw (← a, ← b) q
