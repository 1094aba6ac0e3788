-- Two different texts never have one key, and a key has the width of its field.
use Rattle.std.specs.Prelude.{ℕ, zero, suc, ◌+◌, ◌-◌, ◌≤◌, ◌<◌, ◌≡◌, refl, ◌++◌, Bool, true, false, cond, ltb}
use native.Mathlib.Omega.{arith}
use Rattle.std.proofs.Common.{◌∙◌, get_or-append-add, ltb-false}
use Rattle.std.proofs.Math.Path.{subst}
use Rattle.std.proofs.Math.ListN.{length, get_or, replicate}
use Rattle.text.specs.Text.{Bytes}
use Rattle.stock_rules.specs.Key.{Fault, Part, ends_in, filled, key_of}

-- ---- A text that is filled

pad_there : (n pad j : ℕ) → j < n → get_or (replicate n pad) j 0 ≡ pad
pad_there zero pad j h = absurd (omega arith)
pad_there (suc n) pad zero h = refl
pad_there (suc n) pad (suc j) h = pad_there n pad j (omega arith)

module _ (width pad : ℕ) (t : Bytes) where
  pub filled_pad : (j : ℕ) → length t ≤ j → j < width → get_or (filled width pad t) j 0 ≡ pad
  unfolding filled
  filled_pad j h l =
      let e : length t + (j - length t) ≡ j = omega arith in
      subst (λ (k : ℕ). get_or (t ++ replicate (width - length t) pad) k 0 ≡ pad) e
      (get_or-append-add t (replicate (width - length t) pad) (j - length t) 0 ∙ pad_there (width - length t) pad (j - length t) (omega arith))

-- ---- A text that has a key

pub record Whole (width pad : ℕ) (t k : Bytes) : Type 0 where
  pub short : length t ≤ width
  pub inked : ends_in pad t ≡ false
  pub same : filled width pad t ≡ k

pub key_whole : (width pad : ℕ) (t k : Bytes) → key_of width pad t ≡ Part.part k → Whole width pad t k
unfolding key_of
key_whole width pad t k h = go (ltb width (length t)) refl (ends_in pad t) refl h
  where
    go : (a : Bool) → ltb width (length t) ≡ a → (b : Bool) → ends_in pad t ≡ b →
        cond a (Part.no_part Fault.too_long) (cond b (Part.no_part Fault.padded) (Part.part (filled width pad t))) ≡ Part.part k → Whole width pad t k
    go true ea b eb q = absurd (let z : ◌≡◌ {A = ℕ} 0 1 = cc in omega arith)
    go false ea true eb q = absurd (let z : ◌≡◌ {A = ℕ} 0 1 = cc in omega arith)
    go false ea false eb q = record { short = ltb-false width (length t) ea; inked = eb; same = cc }
