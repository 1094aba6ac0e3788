-- Twelve bytes and their three words: two keys have the same words exactly if they have the same bytes.
use Rattle.std.specs.Prelude.{ℕ, zero, suc, ◌+◌, ◌-◌, ◌*◌, ◌≤◌, ◌<◌, ◌≡◌, Bool, ◌&&◌, eqb}
use Rattle.std.proofs.Common.{arith, add-zero, ◌∙◌, subst, ext_get_or}
use Rattle.std.proofs.Math.Path.{refl, sym, ap}
use Rattle.std.proofs.Math.Bool.{true, false}
use Rattle.std.proofs.lemmas.Bool.{false≢true}
use Rattle.std.proofs.Math.Dec.{ltb}
use Rattle.std.proofs.Math.ListN.{get_or}
use borrow.Author.Tests.{eq-eqb, eqb-true, ltb-true, ltb-false}
use Rattle.store_log.specs.Log.{Bytes}
use Rattle.store_log.specs.Store.{same_bytes}
use Rattle.store_log.proofs.Lots.{same_bytes_lem, bytes_same}
use Rattle.store_event.specs.declared.Key.{Key}
use Rattle.store_lots.specs.Memory.{Words, same_key_at}
use Rattle.store_event.specs.Scan.{word_at, key_at}
use Rattle.store_event.specs.Twelve.{AllBytes, Twelve}
use Rattle.store_lots.specs.Holds.{words_at}

-- ---- Bytes of a word

two_parts : (x y u v : ℕ) → x < 256 → u < 256 → x + 256 * y ≡ u + 256 * v → (x ≡ u) × (y ≡ v)
two_parts x y u v h l e = (omega arith, omega arith)

module _ (a b : Bytes) (f : AllBytes a) (g : AllBytes b) where
  in_word : (i : ℕ) → word_at a i ≡ word_at b i → (m : ℕ) → m < 4 → get_or a (i + m) 0 ≡ get_or b (i + m) 0
  unfolding word_at
  in_word i e = go
    where
      p : (get_or a i 0 ≡ get_or b i 0) × (get_or a (i + 1) 0 + 256 * (get_or a (i + 2) 0 + 256 * get_or a (i + 3) 0) ≡ get_or b (i + 1) 0 + 256 * (get_or b (i + 2) 0 + 256 * get_or b (i + 3) 0))
      p = two_parts _ _ _ _ (f i) (g i) e

      q : (get_or a (i + 1) 0 ≡ get_or b (i + 1) 0) × (get_or a (i + 2) 0 + 256 * get_or a (i + 3) 0 ≡ get_or b (i + 2) 0 + 256 * get_or b (i + 3) 0)
      q = two_parts _ _ _ _ (f (i + 1)) (g (i + 1)) p.1

      r : (get_or a (i + 2) 0 ≡ get_or b (i + 2) 0) × (get_or a (i + 3) 0 ≡ get_or b (i + 3) 0)
      r = two_parts _ _ _ _ (f (i + 2)) (g (i + 2)) q.1

      go : (m : ℕ) → m < 4 → get_or a (i + m) 0 ≡ get_or b (i + m) 0
      go zero h = rw (add-zero i) p.0
      go (suc zero) h = q.0
      go (suc (suc zero)) h = r.0
      go (suc (suc (suc zero))) h = r.1
      go (suc (suc (suc (suc m)))) h = absurd (omega arith)

  by_word : (i : ℕ) → word_at a i ≡ word_at b i → (m : ℕ) → i ≤ m → m < i + 4 → get_or a m 0 ≡ get_or b m 0
  by_word i e m h l =
      let s : i + (m - i) ≡ m = omega arith in
      subst (λ (j : ℕ). get_or a j 0 ≡ get_or b j 0) s (in_word i e (m - i) (omega arith))

  twelve_bytes : key_at a 0 ≡ key_at b 0 → (m : ℕ) → m < 12 → get_or a m 0 ≡ get_or b m 0
  unfolding key_at
  twelve_bytes e m h = go (ltb m 4) refl (ltb m 8) refl
    where
      go : (t : Bool) → ltb m 4 ≡ t → (u : Bool) → ltb m 8 ≡ u → get_or a m 0 ≡ get_or b m 0
      go true t u v = by_word 0 (ap (λ (k : Key). k.supplier) e) m (omega arith) (let l = ltb-true m 4 t in omega (arith, l))
      go false t true v = by_word 4 (ap (λ (k : Key). k.first) e) m (ltb-false m 4 t) (let l = ltb-true m 8 v in omega (arith, l))
      go false t false v = by_word 8 (ap (λ (k : Key). k.second) e) m (ltb-false m 8 v) (omega arith)

pub key_one : (a b : Bytes) → Twelve a → Twelve b → key_at a 0 ≡ key_at b 0 → a ≡ b
key_one a b f g e =
    ext_get_or 0 a b (f.count ∙ sym g.count) (λ m h. twelve_bytes a b f.small g.small e m (let l = f.count in omega (arith, l, h)))

-- ---- The test of a lot's three words is the test of its twelve bytes

module _ (keys : Words) (i : ℕ) (key other : Bytes) (f : Twelve key) (g : Twelve other) (w : words_at keys i ≡ key_at other 0) where
  words_same : key ≡ other → same_key_at keys (key_at key 0) i ≡ true
  unfolding same_key_at
  words_same e =
      let q : words_at keys i ≡ key_at key 0 = w ∙ ap (λ (k : Bytes). key_at k 0) (sym e) in
      rw (
        eq-eqb (get_or keys (1024 + i) 0) (key_at key 0).second (ap (λ (k : Key). k.second) q),
        eq-eqb (get_or keys (512 + i) 0) (key_at key 0).first (ap (λ (k : Key). k.first) q),
        eq-eqb (get_or keys i 0) (key_at key 0).supplier (ap (λ (k : Key). k.supplier) q),
      )

  same_words : (t u v : Bool) → eqb (get_or keys (1024 + i) 0) (key_at key 0).second ≡ t → eqb (get_or keys (512 + i) 0) (key_at key 0).first ≡ u →
      eqb (get_or keys i 0) (key_at key 0).supplier ≡ v → (t && (u && v)) ≡ true → words_at keys i ≡ key_at key 0
  unfolding key_at
  same_words true true true a b c h =
      rw (eqb-true (get_or keys (1024 + i) 0) (key_at key 0).second a, eqb-true (get_or keys (512 + i) 0) (key_at key 0).first b, eqb-true (get_or keys i 0) (key_at key 0).supplier c)
  same_words true true false a b c h = absurd (false≢true h)
  same_words true false v a b c h = absurd (false≢true h)
  same_words false u v a b c h = absurd (false≢true h)

  pub same_there : same_key_at keys (key_at key 0) i ≡ same_bytes key other
  unfolding same_key_at
  same_there = go (same_bytes key other) refl (same_key_at keys (key_at key 0) i) refl
    where
      go : (t : Bool) → same_bytes key other ≡ t → (u : Bool) → same_key_at keys (key_at key 0) i ≡ u → u ≡ t
      go true e true h = refl
      go true e false h = sym h ∙ words_same (same_bytes_lem key other e)
      go false e true h =
          let q = same_words (eqb (get_or keys (1024 + i) 0) (key_at key 0).second) (eqb (get_or keys (512 + i) 0) (key_at key 0).first) (eqb (get_or keys i 0) (key_at key 0).supplier) refl refl refl h in
          let s : key ≡ other = key_one key other f g (sym q ∙ w) in
          sym (sym e ∙ ap (same_bytes key) (sym s) ∙ bytes_same key)
      go false e false h = refl
