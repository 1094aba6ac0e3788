-- The event in the log, as the code's numbers have it.
use Rattle.std.specs.Prelude.{ℕ, suc, ◌+◌, ◌-◌, ◌*◌, ◌≤◌, ◌<◌, ◌≡◌, ◌≢◌, ◌∷◌, ◌++◌, Bool, true, false, ◌||◌, ltb, length, drop}
use native.Mathlib.Omega.{arith}
use Rattle.std.proofs.Common.{add-zero, ◌∙◌, subst, length-drop, length-append, get_or-drop, drop-drop, drop_at}
use Rattle.std.proofs.Math.Path.{refl, sym, ap}
use Rattle.std.proofs.Math.Bool.{cond}
use Rattle.std.proofs.Math.Dec.{eqb}
use Rattle.std.proofs.Math.ListN.{get_or, get_or-append, get_or-eq_default}
use borrow.Author.Tests.{ne_eqb, lt-ltb, le-ltb, ltb-true, ltb-false}
use Rattle.store_log.specs.Log.{Bytes, Kind, letter, day_letter}
use Rattle.store_log.specs.OneReading.{at_12, body_length}
use Rattle.store_event.specs.declared.Key.{Key}
use Rattle.store_event.specs.declared.Scan.{Scan}
use Rattle.store_event.specs.Scan.{word_at, half_at, key_at, is_scan, scan_of, scan_at}
use Rattle.store_event.specs.Twelve.{AllBytes, Twelve}
use Rattle.store_event.specs.EventRead.{key_is, half_is}

abbrev pub scanned : Kind → Key → ℕ → Scan
scanned Kind.received k q = Scan.Received k q
scanned Kind.issued k q = Scan.Issued k q
scanned Kind.counted k q = Scan.Counted k q

-- ---- Bytes from a place on

module _ (s : Bytes) (at x : ℕ) (t : Bytes) (e : drop at s ≡ x ∷ t) where
  kind_there : get_or s at 0 ≡ x
  kind_there = ap (λ (j : ℕ). get_or s j 0) (sym (add-zero at)) ∙ sym (get_or-drop at s 0 0) ∙ ap (λ (u : Bytes). get_or u 0 0) e

  left_there : length s - at ≡ suc (length t)
  left_there = sym (length-drop at s) ∙ ap length e

  byte_there : (m : ℕ) → get_or s (at + suc m) 0 ≡ get_or t m 0
  byte_there m = sym (get_or-drop at s (suc m) 0) ∙ ap (λ (u : Bytes). get_or u (suc m) 0) e

  rest_there : (n : ℕ) → drop (at + suc n) s ≡ drop n t
  rest_there n = sym (drop-drop (suc n) at s) ∙ ap (drop (suc n)) e

-- ---- A scan

module _ (s : Bytes) (small : AllBytes s) (at : ℕ) (k : Kind) (key : Bytes) (low high : ℕ) (r : Bytes) (count : length key ≡ 12)
    (e : drop at s ≡ letter k ∷ (key ++ (low ∷ high ∷ r))) where
  abbrev body : Bytes
  body = key ++ (low ∷ high ∷ r)

  key_byte : (m : ℕ) → m < 12 → get_or s (at + 1 + m) 0 ≡ get_or key m 0
  key_byte m h =
      let q : at + 1 + m ≡ at + suc m = omega arith in
      ap (λ (j : ℕ). get_or s j 0) q ∙ byte_there s at (letter k) body e m ∙ get_or-append key (low ∷ high ∷ r) 0 m (omega (arith, count))

  key_word : (p : ℕ) → p + 4 ≤ 12 → word_at key p ≡ word_at s (at + 1 + p)
  unfolding word_at
  key_word p h = rw (key_byte p (omega arith), next 1 (omega arith), next 2 (omega arith), next 3 (omega arith))
    where
      next : (m : ℕ) → m < 4 → get_or s (at + 1 + p + m) 0 ≡ get_or key (p + m) 0
      next m l =
          let q : at + 1 + p + m ≡ at + 1 + (p + m) = omega arith in
          ap (λ (j : ℕ). get_or s j 0) q ∙ key_byte (p + m) (omega arith)

  key_there : key_at key 0 ≡ key_at s (at + 1)
  unfolding key_at
  key_there =
      key_is s (at + 1) (word_at key 0) (word_at key 4) (word_at key 8)
      (key_word 0 (omega arith) ∙ ap (word_at s) (add-zero (at + 1))) (key_word 4 (omega arith)) (key_word 8 (omega arith))

  quantity_there : low + 256 * high ≡ half_at s (at + 13)
  quantity_there =
      let p = at_12 body low high r (drop_at key (low ∷ high ∷ r) 12 count) in
      let q : at + 13 + 1 ≡ at + 14 = omega arith in
      half_is s (at + 13) low high (sym (byte_there s at (letter k) body e 12 ∙ p.0))
      (sym (ap (λ (j : ℕ). get_or s j 0) q ∙ byte_there s at (letter k) body e 13 ∙ p.1))

  pub key_twelve : Twelve key
  key_twelve = record { count = count; small = λ m. go m (ltb m 12) refl }
    where
      go : (m : ℕ) (t : Bool) → ltb m 12 ≡ t → get_or key m 0 < 256
      go m true h = subst (λ (b : ℕ). b < 256) (key_byte m (ltb-true m 12 h)) (small (at + 1 + m))
      go m false h = let l = ltb-false m 12 h in let z = get_or-eq_default key 0 {n = m} (omega (arith, count, l)) in omega (arith, z)

  pub scan_left : length s - at ≡ 15 + length r
  scan_left = let l = left_there s at (letter k) body e in let b = body_length key low high r count in omega (arith, l, b)

  pub scan_there : scan_at s at ≡ scanned k (key_at key 0) (low + 256 * high)
  unfolding scan_at scan_of is_scan
  scan_there =
      let l = scan_left in
      rw (kind_there s at (letter k) body e, le-ltb (length s - at) 15 (omega (arith, l)), sym key_there, sym quantity_there) (go k)
    where
      go : (j : Kind) →
          cond (eqb (letter j) 68) (cond (ltb (length s - at) 5) Scan.Cut Scan.Day)
          (cond (eqb (letter j) 82 || (eqb (letter j) 73 || eqb (letter j) 67))
          (cond (eqb (letter j) 82) (Scan.Received (key_at key 0) (low + 256 * high)) (cond (eqb (letter j) 73) (Scan.Issued (key_at key 0) (low + 256 * high)) (Scan.Counted (key_at key 0) (low + 256 * high))))
          Scan.Unknown) ≡ scanned j (key_at key 0) (low + 256 * high)
      go Kind.received = refl
      go Kind.issued = refl
      go Kind.counted = refl

  pub scan_rest : drop (at + 15) s ≡ r
  scan_rest = rest_there s at (letter k) body e 14 ∙ (at_12 body low high r (drop_at key (low ∷ high ∷ r) 12 count)).2

-- ---- A day

module _ (s : Bytes) (at : ℕ) (date r : Bytes) (count : length date ≡ 4) (e : drop at s ≡ day_letter ∷ (date ++ r)) where
  pub day_left : length s - at ≡ 5 + length r
  day_left = let l = left_there s at day_letter (date ++ r) e in let b = length-append date r in omega (arith, l, b, count)

  pub day_there : scan_at s at ≡ Scan.Day
  unfolding scan_at
  day_there = let l = day_left in rw (kind_there s at day_letter (date ++ r) e, le-ltb (length s - at) 5 (omega (arith, l)))

  pub day_rest : drop (at + 5) s ≡ r
  day_rest = rest_there s at day_letter (date ++ r) e 4 ∙ drop_at date r 4 count

-- ---- No event

module _ (s : Bytes) (at x : ℕ) (t : Bytes) (e : drop at s ≡ x ∷ t) where
  pub some_left : at < length s
  some_left = let l = left_there s at x t e in omega (arith, l)

  pub unknown_there : ((k : Kind) → x ≢ letter k) → x ≢ day_letter → scan_at s at ≡ Scan.Unknown
  unfolding scan_at is_scan
  unknown_there h d =
      rw (kind_there s at x t e, ne_eqb x 68 d, ne_eqb x 82 (h Kind.received), ne_eqb x 73 (h Kind.issued), ne_eqb x 67 (h Kind.counted))

pub cut_scan_there : (s : Bytes) (at : ℕ) (k : Kind) (t : Bytes) → drop at s ≡ letter k ∷ t → length t < 14 → scan_at s at ≡ Scan.Cut
unfolding scan_at is_scan
cut_scan_there s at k t e h =
    let l = left_there s at (letter k) t e in
    rw (kind_there s at (letter k) t e, lt-ltb (length s - at) 15 (omega (arith, l))) (go k)
  where
    go : (j : Kind) → cond (eqb (letter j) 68) (cond (ltb (length s - at) 5) Scan.Cut Scan.Day)
        (cond (eqb (letter j) 82 || (eqb (letter j) 73 || eqb (letter j) 67)) Scan.Cut Scan.Unknown) ≡ Scan.Cut
    go Kind.received = refl
    go Kind.issued = refl
    go Kind.counted = refl

pub cut_day_there : (s : Bytes) (at : ℕ) (t : Bytes) → drop at s ≡ day_letter ∷ t → length t < 4 → scan_at s at ≡ Scan.Cut
unfolding scan_at
cut_day_there s at t e h = let l = left_there s at day_letter t e in rw (kind_there s at day_letter t e, lt-ltb (length s - at) 5 (omega (arith, l)))
