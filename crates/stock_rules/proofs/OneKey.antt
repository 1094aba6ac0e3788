-- Two different texts never have one key, and a key has the width of its field.
use Rattle.std.specs.Prelude.{ℕ, zero, suc, ◌-◌, ◌≤◌, ◌<◌, ◌≡◌, refl, Bool, true, false, ltb, take}
use native.Mathlib.Omega.{arith}
use Rattle.std.proofs.Common.{sym, ap, ◌∙◌, true≢false, take_at, eq-eqb, lt-ltb, ltb-true, ltb-false}
use Rattle.std.proofs.Math.ListN.{length, get_or, replicate, length-append, get_or-append}
use Rattle.text.specs.Text.{Bytes}
use Rattle.stock_rules.specs.Key.{Part, ends_in, filled, key_of}
use Rattle.stock_rules.specs.OneKey.{filled_pad, Whole, key_whole}

-- ---- A text that is filled

length_pads : (n pad : ℕ) → length (replicate n pad) ≡ n
length_pads zero pad = refl
length_pads (suc n) pad = ap suc (length_pads n pad)

module _ (width pad : ℕ) (t : Bytes) where
  pub filled_length : length t ≤ width → length (filled width pad t) ≡ width
  unfolding filled
  filled_length h = omega (arith, length-append t (replicate (width - length t) pad), length_pads (width - length t) pad)

  pub filled_text : (j : ℕ) → j < length t → get_or (filled width pad t) j 0 ≡ get_or t j 0
  unfolding filled
  filled_text j h = get_or-append t (replicate (width - length t) pad) 0 j h

-- ---- A text that has a key

pub key_length : (width pad : ℕ) (t k : Bytes) → key_of width pad t ≡ Part.part k → length k ≡ width
key_length width pad t k h = let w = key_whole width pad t k h in ap length (sym w.same) ∙ filled_length width pad t w.short

last_is : (pad : ℕ) (u : Bytes) → 0 < length u → get_or u (length u - 1) 0 ≡ pad → ends_in pad u ≡ true
unfolding ends_in
last_is pad u h e = rw (lt-ltb 0 (length u) h, eq-eqb (get_or u (length u - 1) 0) pad e)

-- the longer of two texts with one key would end in the pad byte
not_longer : (width pad : ℕ) (t u k : Bytes) → Whole width pad t k → Whole width pad u k → length u ≤ length t
not_longer width pad t u k f g = go (ltb (length t) (length u)) refl
  where
    go : (a : Bool) → ltb (length t) (length u) ≡ a → length u ≤ length t
    go false e = ltb-false (length t) (length u) e
    go true e =
        let l = ltb-true (length t) (length u) e in
        let s = g.short in
        let j = length u - 1 in
        let last : get_or u j 0 ≡ pad =
        sym (filled_text width pad u j (omega arith)) ∙ ap (λ (x : Bytes). get_or x j 0) (g.same ∙ sym f.same) ∙ filled_pad width pad t j (omega arith) (omega arith) in
        absurd (true≢false (sym (last_is pad u (omega arith) last) ∙ g.inked))

pub key_one : (width pad : ℕ) (t u k : Bytes) → key_of width pad t ≡ Part.part k → key_of width pad u ≡ Part.part k → t ≡ u
unfolding filled
key_one width pad t u k h l =
    let f = key_whole width pad t k h in
    let g = key_whole width pad u k l in
    let a = not_longer width pad t u k f g in
    let b = not_longer width pad u t k g f in
    sym (take_at t (replicate (width - length t) pad) (length t) refl) ∙ ap (take (length t)) (f.same ∙ sym g.same) ∙
    take_at u (replicate (width - length u) pad) (length t) (omega arith)
