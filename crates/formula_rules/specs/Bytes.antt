-- Ranges of bytes, and bytes that stand in a text.
use Rattle.std.specs.Prelude.{ℕ, ◌≤◌, ◌<◌, ◌≡◌, refl, List, Bool, true, false, leb, length}
use Rattle.std.proofs.Math.Bool.{and-eq-true_iff}
use Rattle.std.proofs.Common.{arith, leb-true, leb-false, le-leb}
use Rattle.std.proofs.Math.ListN.{get_or-eq_default}
use Rattle.std.proofs.lemmas.Bool.{lt-leb}
use Rattle.formula_rules.specs.Formula.{byte_at, between}

abbrev pub is_capital : ℕ → Bool
is_capital b = between 65 90 b

abbrev pub is_small : ℕ → Bool
is_small b = between 97 122 b

pub between_from : (l h b : ℕ) → between l h b ≡ true → (l ≤ b) × (b ≤ h)
unfolding between
between_from l h b e =
    let p = (and-eq-true_iff (leb l b) (leb b h)).0 e in
    (leb-true l b p.0, leb-true b h p.1)

pub between_is : (l h b : ℕ) → l ≤ b → b ≤ h → between l h b ≡ true
unfolding between
between_is l h b p q = rw (le-leb l b p, le-leb b h q)

pub between_below : (l h b : ℕ) → b < l → false ≡ between l h b
unfolding between
between_below l h b p = rw (lt-leb l b p)

pub between_up : (l h b : ℕ) → l ≤ b → leb b h ≡ between l h b
unfolding between
between_up l h b p = rw (le-leb l b p)

-- a byte other than 0 stands in the text
pub inside : (s : List ℕ) (a : ℕ) → 0 < byte_at s a → a < length s
inside s a h = go (leb (length s) a) refl
  where
    go : (t : Bool) → leb (length s) a ≡ t → a < length s
    go true e = absurd (omega (arith, get_or-eq_default s 0 (leb-true (length s) a e)))
    go false e = omega (arith, leb-false (length s) a e)
