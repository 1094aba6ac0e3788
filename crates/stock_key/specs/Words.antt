-- The words of a key are those of its two texts, filled.
use Rattle.std.specs.Prelude.{ℕ, ◌+◌, ◌-◌, ◌≤◌, ◌<◌, ◌≡◌, List, ◌++◌, Bool, length, take, drop}
use native.Mathlib.Omega.{arith}
use Rattle.std.proofs.Math.Path.{refl, ap}
use Rattle.std.proofs.Common.{◌∙◌, length-drop, length-take-le, get_or-append-add}
use Rattle.std.proofs.Math.Bool.{true, false, cond}
use Rattle.std.proofs.Math.Dec.{ltb}
use Rattle.std.proofs.Math.ListN.{get_or, get_or-append}
use Rattle.std.proofs.Math.Seq.{get_or-take, get_or-drop}
use borrow.Author.Tests.{ltb-true, ltb-false}
use Rattle.text.specs.Text.{Bytes}
use Rattle.store_event.specs.Scan.{word_at, key_at}
use Rattle.stock_rules.specs.Key.{filled}
use Rattle.stock_rules.specs.OneKey.{filled_pad}
use Rattle.stock_rules.proofs.OneKey.{filled_text}
use Rattle.stock_key.specs.Read.{byte_of, word_of}

-- ---- A text that stands in a record

module _ (s : Bytes) (from to width pad : ℕ) (order : from ≤ to) (inside : to ≤ length s) (short : to - from ≤ width) where
  abbrev text : Bytes
  text = take (to - from) (drop from s)

  pub text_length : length text ≡ to - from
  text_length = length-take-le (to - from) (drop from s) (omega (arith, length-drop from s))

  byte_filled : (j : ℕ) → j < width → get_or (filled width pad text) j 0 ≡ byte_of s (from + j) to pad
  unfolding byte_of
  byte_filled j h = go (ltb (from + j) to) refl
    where
      go : (b : Bool) → ltb (from + j) to ≡ b → get_or (filled width pad text) j 0 ≡ cond b (get_or s (from + j) 0) pad
      go true e =
          let l = ltb-true (from + j) to e in
          filled_text width pad text j (omega (arith, text_length)) ∙ get_or-take (to - from) (drop from s) j 0 (omega arith) ∙ get_or-drop from s j 0
      go false e = let l = ltb-false (from + j) to e in filled_pad width pad text j (omega (arith, text_length)) h

  pub word_filled : (i : ℕ) → i + 4 ≤ width → word_at (filled width pad text) i ≡ word_of s (from + i) to pad
  unfolding word_at word_of
  word_filled i h = rw (byte_filled i (omega arith), next 1 (omega arith), next 2 (omega arith), next 3 (omega arith))
    where
      next : (m : ℕ) → m < 4 → get_or (filled width pad text) (i + m) 0 ≡ byte_of s (from + i + m) to pad
      next m l =
          let q : from + (i + m) ≡ from + i + m = omega arith in
          byte_filled (i + m) (omega arith) ∙ ap (λ (j : ℕ). byte_of s j to pad) q

-- ---- Four bytes, and eight behind them

module _ (a b : Bytes) (four : length a ≡ 4) where
  behind : (n m : ℕ) → n ≡ 4 + m → get_or (a ++ b) n 0 ≡ get_or b m 0
  behind n m h = let q : n ≡ length a + m = omega arith in ap (λ (j : ℕ). get_or (a ++ b) j 0) q ∙ get_or-append-add a b m 0

  first_word : word_at (a ++ b) 0 ≡ word_at a 0
  unfolding word_at
  first_word = rw (get_or-append a b 0 0 (omega arith), get_or-append a b 0 1 (omega arith), get_or-append a b 0 2 (omega arith), get_or-append a b 0 3 (omega arith))

  word_behind : (i : ℕ) → word_at (a ++ b) (4 + i) ≡ word_at b i
  unfolding word_at
  word_behind i = rw (behind (4 + i) i refl, behind (4 + i + 1) (i + 1) (omega arith), behind (4 + i + 2) (i + 2) (omega arith), behind (4 + i + 3) (i + 3) (omega arith))

  pub key_words : key_at (a ++ b) 0 ≡ record { supplier = word_at a 0; first = word_at b 0; second = word_at b 4 }
  unfolding key_at
  key_words = rw (first_word, word_behind 0, word_behind 4)
