-- Bonds held against each other, one after the other.
use Prim.Native.Nat.{ℕ, zero, suc, ◌+◌, ◌-◌, ◌*◌, ◌≤◌, ◌<◌}
use native.Mathlib.Numerals.{add-one}
use native.Mathlib.Omega.{arith}
use mathlib.Core.Path.{◌≡◌, refl, sym, ap, ◌∙◌, subst}
use mathlib.Core.List.{List}
use mathlib.Core.Bool.{Bool, true, false, ◌&&◌, ◌||◌}
use lib.Dec.{eqb}
use lib.IntN.{ℤ, pos, negsuc, nat_abs}
use lib.ListN.{get_or, length, set, length-set}
use lib.Seq.{get_or-set_same, get_or-set_other}
use lib.Signed.{lt_z}
use borrow.Author.Tests.{eqb-true, eqb-false, ltb-true, lt-leb, le-leb}
use mir.Syntax.{w32}
use mir.Val.{SFits, to_z, of_z}
use Rattle.text.specs.Laws.{true_false}
use Rattle.field_numbers.specs.Signs.{same_sign, same_cast, same_size}
use Rattle.rules.specs.Record.{limit}
use Rattle.judge_line.specs.Field.{same_integer}
use Rattle.judge_line.specs.AgreeField.{integer_same, same_integer_lem}
use Rattle.line_fields.specs.Steps.{hop}
use Rattle.reader_pairs.specs.Keys.{pair_key, Searching}
use Rattle.writer_tables.specs.Tables.{same_ends, same_at, against, walk_from, first_repeat}
use Rattle.writer_tables.specs.PairKey.{small_end, small_end_lem, key_at, same_key}
use Rattle.writer_tables.specs.declared.Repeat.TheVariants.{Pair, Nothing}
use Rattle.writer_row.proofs.Steps.{bits_same, bits_apart, bits_test}
use Rattle.writer_tables.proofs.Loops.{row_get}

abbrev end : List ℤ → ℕ → ℤ
end t k = get_or t k (pos 0)

-- where the first ends are the same, the other direction asks for no more
alike : (a b c d : ℤ) → a ≡ c → same_integer b d ≡ (same_integer b d || (same_integer a d && same_integer b c))
alike a b c d e = go (same_integer b d) (same_integer a d) (same_integer b c) refl refl refl
  where
    go : (s t u : Bool) → same_integer b d ≡ s → same_integer a d ≡ t → same_integer b c ≡ u → s ≡ (s || (t && u))
    go true t u p q r = refl
    go false true true p q r = sym p ∙ ap (λ (z : ℤ). same_integer z d) (same_integer_lem b c r ∙ sym e ∙ same_integer_lem a d q) ∙ integer_same d
    go false true false p q r = refl
    go false false u p q r = refl

module _ (t : List ℤ) (i j : ℕ) (fa : SFits w32 (end t (6 * i))) (fb : SFits w32 (end t (6 * i + 1))) (fc : SFits w32 (end t (6 * j))) (fd : SFits w32 (end t (6 * j + 1))) where
  ends : same_at t i j ≡ ((same_integer (end t (6 * i)) (end t (6 * j)) && same_integer (end t (6 * i + 1)) (end t (6 * j + 1))) || (same_integer (end t (6 * i)) (end t (6 * j + 1)) && same_integer (end t (6 * i + 1)) (end t (6 * j))))
  unfolding same_at same_ends
  ends =
      let e : 6 * i + 0 ≡ 6 * i = omega arith in
      let f : 6 * j + 0 ≡ 6 * j = omega arith in
      rw (row_get 6 t i 0 (omega arith), row_get 6 t i 1 (omega arith), row_get 6 t j 0 (omega arith), row_get 6 t j 1 (omega arith), e, f)

  pub first_alike : of_z w32 (end t (6 * i)) ≡ of_z w32 (end t (6 * j)) → eqb (of_z w32 (end t (6 * i + 1))) (of_z w32 (end t (6 * j + 1))) ≡ same_at t i j
  first_alike a =
      let e : same_integer (end t (6 * i)) (end t (6 * j)) ≡ true = bits_same _ _ fa fc a in
      rw (ends, e, bits_test _ _ fb fd) (alike (end t (6 * i)) (end t (6 * i + 1)) (end t (6 * j)) (end t (6 * j + 1)) (same_integer_lem _ _ e))

  pub other_way : (of_z w32 (end t (6 * i)) ≡ of_z w32 (end t (6 * j)) → ⊥) →
      of_z w32 (end t (6 * i)) ≡ of_z w32 (end t (6 * j + 1)) → eqb (of_z w32 (end t (6 * i + 1))) (of_z w32 (end t (6 * j))) ≡ same_at t i j
  other_way a c = rw (ends, bits_apart _ _ fa fc a, bits_same _ _ fa fd c, bits_test _ _ fb fc)

  pub neither_way : (of_z w32 (end t (6 * i)) ≡ of_z w32 (end t (6 * j)) → ⊥) →
      (of_z w32 (end t (6 * i)) ≡ of_z w32 (end t (6 * j + 1)) → ⊥) → false ≡ same_at t i j
  neither_way a c = rw (ends, bits_apart _ _ fa fc a, bits_apart _ _ fa fd c)

pub ruleset two_bonds = (first_alike, other_way, neither_way)

-- ---- The key of a bond

module _ (z : ℤ) (f : SFits w32 z) where
  back : to_z w32 (of_z w32 z) ≡ z
  back = hop z f

  pub end_minus : lt_z (to_z w32 (of_z w32 z)) (pos 0) ≡ true → 0 ≡ small_end z
  unfolding small_end
  end_minus h = go z (rw back at h)
    where
      go : (y : ℤ) → lt_z y (pos 0) ≡ true → 0 ≡ small_end y
      go (pos k) h = absurd (omega (arith, ltb-true k 0 h))
      go (negsuc k) h = refl

  pub end_high : 999 < nat_abs (to_z w32 (of_z w32 z)) → 0 ≡ small_end z
  unfolding small_end
  end_high h = go z (rw back at h)
    where
      go : (y : ℤ) → 999 < nat_abs y → 0 ≡ small_end y
      go (pos k) h = rw (lt-leb k 999 h)
      go (negsuc k) h = refl

  pub end_small : lt_z (to_z w32 (of_z w32 z)) (pos 0) ≡ false → nat_abs (to_z w32 (of_z w32 z)) ≤ 999 → nat_abs (to_z w32 (of_z w32 z)) ≡ small_end z
  unfolding small_end
  end_small s h = rw back (go z (rw back at s) (rw back at h))
    where
      go : (y : ℤ) → lt_z y (pos 0) ≡ false → nat_abs y ≤ 999 → nat_abs y ≡ small_end y
      go (pos k) s h = rw (le-leb k 999 h)
      go (negsuc k) s h = true_false s

pub ruleset end_laws = (end_minus, end_high, end_small, same_sign, same_cast, same_size)

pub key_is : (t : List ℤ) (i a b key : ℕ) → a ≡ small_end (end t (6 * i)) → b ≡ small_end (end t (6 * i + 1)) → key ≡ pair_key a b → key ≡ key_at t i
unfolding key_at
key_is t i a b key e f h =
    let z : 6 * i + 0 ≡ 6 * i = omega arith in
    rw (row_get 6 t i 0 (omega arith), row_get 6 t i 1 (omega arith), z, h, e, f)

module _ (a : ℕ) (z : ℤ) (e : a ≡ small_end z) where
  pub end_few : a ≤ 999
  end_few = rw e (small_end_lem z)

pub ruleset key_laws = (key_is, end_few)

-- ---- The walk, and the search among earlier bonds

-- the keys of the bonds before bond i stand in their places
pub record Keyed (t : List ℤ) (keys : List ℕ) (i : ℕ) : Type 0 where
  pub size : length keys ≡ limit
  pub held : (k : ℕ) → k < i → get_or keys k 0 ≡ key_at t k

pub record Walk (t : List ℤ) (m : ℕ) (keys : List ℕ) (i : ℕ) : Type 0 where
  pub within : i ≤ m
  pub few : m ≤ limit
  pub keyed : Keyed t keys i
  pub same : first_repeat t m ≡ walk_from t i (m - i)

pub record Search (t : List ℤ) (m : ℕ) (keys : List ℕ) (key i j : ℕ) : Type 0 where
  pub inner : j ≤ i
  pub within : i < m
  pub few : m ≤ limit
  pub keyed : Keyed t keys i
  pub key_of : key ≡ key_at t i
  pub same : first_repeat t m ≡ against t i j (i - j) (walk_from t (i + 1) (m - (i + 1)))

module _ (t : List ℤ) (m : ℕ) where
  pub walk_start : m ≤ limit → (keys : List ℕ) → length keys ≡ limit → Walk t m keys 0
  walk_start few keys size =
      let e : m - 0 ≡ m = omega arith in
      record { within = omega arith; few = few; keyed = record { size = size; held = λ k h. absurd (omega arith) }; same = rw e }

  module _ (keys : List ℕ) (i : ℕ) where
    pub walk_end : Walk t m keys i → m ≤ i → Nothing ≡ first_repeat t m
    unfolding walk_from
    walk_end w h = let e : m - i ≡ 0 = omega arith in rw (w.same, e)

    module _ (key j : ℕ) (s : Search t m keys key i j) where
      pub search_next : (b : Bool) → j < i → b ≡ same_at t i j → b ≡ false → Search t m keys key i (j + 1)
      unfolding against
      search_next b h e k =
          let n : i - j ≡ suc (i - (j + 1)) = omega arith in
          record { inner = omega arith; within = s.within; few = s.few; keyed = s.keyed; key_of = s.key_of; same = s.same ∙ rw (n, ← e, k, add-one j) }

      pub search_found : (b : Bool) → j < i → b ≡ same_at t i j → b ≡ true → Pair (j + 1) (i + 1) ≡ first_repeat t m
      unfolding against
      search_found b h e k = let n : i - j ≡ suc (i - (j + 1)) = omega arith in rw (s.same, n, ← e, k, add-one j, add-one i)

      pub search_within : i < limit
      search_within = omega (arith, s.within, s.few)

      pub search_end : i ≤ j → Walk t m (set keys i key) (i + 1)
      unfolding against
      search_end h =
          let n : i - j ≡ 0 = omega arith in
          record {
            within = omega (arith, s.within);
            few = s.few;
            keyed = record { size = length-set keys i key ∙ s.keyed.size; held = λ k l. go k l (eqb k i) refl };
            same = s.same ∙ rw n;
          }
        where
          go : (k : ℕ) → k < i + 1 → (b : Bool) → eqb k i ≡ b → get_or (set keys i key) k 0 ≡ key_at t k
          go k l true q =
              rw (eqb-true k i q) (get_or-set_same keys i key 0 (omega (arith, search_within, s.keyed.size)) ∙ s.key_of)
          go k l false q =
              let d = eqb-false k i q in
              get_or-set_other keys i k key 0 d ∙ s.keyed.held k (omega arith)

    -- ---- The bonds before place j of the keys have other pairs

    module _ (w : Walk t m keys i) (h : i < m) where
      pub walk_few : i ≤ limit
      walk_few = omega (arith, w.few)

      module _ (key : ℕ) (e : key ≡ key_at t i) where
        first : Search t m keys key i 0
        unfolding walk_from
        first =
            let n : m - i ≡ suc (m - (i + 1)) = omega arith in
            let z : i - 0 ≡ i = omega arith in
            record { inner = omega arith; within = h; few = w.few; keyed = w.keyed; key_of = e; same = w.same ∙ rw (n, z, add-one i) }

        other : (k : ℕ) → k < i → (get_or keys k 0 ≡ key → ⊥) → same_at t i k ≡ false
        other k l ne = go (same_at t i k) refl
          where
            go : (b : Bool) → same_at t i k ≡ b → b ≡ false
            go true q = absurd (ne (w.keyed.held k l ∙ sym (same_key t i k q) ∙ sym e))
            go false q = refl

        pub search_start : (j : ℕ) → Searching keys key i j → Search t m keys key i j
        search_start j g = passed j (omega arith)
          where
            passed : (k : ℕ) → k ≤ j → Search t m keys key i k
            passed zero l = first
            passed (suc k) l =
                let one : k + 1 ≡ suc k = add-one k in
                let inside : k < i = omega (arith, g.within) in
                subst (Search t m keys key i) one
                (search_next key k (passed k (omega arith)) (same_at t i k) inside refl (other k inside (g.missed.none k (omega arith) (omega arith))))

pub ruleset walking = (walk_start, walk_end, walk_few, search_start, search_next, search_found, search_within, search_end)
