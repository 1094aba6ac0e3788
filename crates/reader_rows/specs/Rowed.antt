-- The lent rows while bonds are read: none where the list is searched, else rows that say the pairs of the bonds read.
use Rattle.std.specs.Prelude.{ℕ, zero, suc, ◌+◌, ◌/◌, ◌%◌, ◌≤◌, ◌<◌, ◌≡◌, refl, List, [], ◌∷◌, Bool, true, false, cond, not, eqb, length, get_or, take, set}
use Rattle.std.proofs.Common.{arith, add-one, sym, ap, ◌∙◌, drop_of_length-le, take-suc-set, get_or-take, length-take-le, eq-eqb}
use Rattle.text.specs.Laws.{true_false}
use Rattle.rules.specs.Record.{limit}
use Rattle.sets_words.specs.Bits.{has_bit, in_row}
use Rattle.judge_line.specs.Field.{elem}
use Rattle.reader_pairs.specs.Keys.{Searching}
use Rattle.reader_rows.specs.Says.{row_places, emptied}
use Rattle.reader_rows.specs.Marked.{with_key, PairKey, marked, AllPairs, Blank, marked_none, pairs_none, marked_more, pairs_more, emptied_blank, emptied_length}

-- rows of no words: the list is searched
pub data Lent (ws : List ℕ) : Type 0 where
  none : length ws ≡ 0 → Lent ws
  blank : row_places ≤ length ws → Blank ws → Lent ws

-- rows that were ws₀, after the pairs with these keys
pub record Rowed (ws₀ ws ks : List ℕ) : Type 0 where
  pub lent : Lent ws₀
  pub is : ws ≡ marked ws₀ ks
  pub pairs : AllPairs ks

-- what asking for a pair asks
pub record Fitting (ws : List ℕ) (key : ℕ) : Type 0 where
  pub pair : PairKey key
  pub room : (length ws ≡ 0 → ⊥) → row_places ≤ length ws

pub record Asking (ws keys : List ℕ) (count key : ℕ) : Type 0 where
  pub fits : Fitting ws key
  pub few : count ≤ limit
  pub key_room : length keys ≡ limit
  pub tells : (length ws ≡ 0 → ⊥) → has_bit ws (in_row (key / 1024) (key % 1024)) ≡ elem key (take count keys)

-- there are rows, and they do not say the pair
unfoldable pub new_in : List ℕ → ℕ → Bool
new_in ws key = cond (eqb (length ws) 0) false (not (has_bit ws (in_row (key / 1024) (key % 1024))))

-- ---- Bond after bond

pub lent_none : Lent []
lent_none = Lent.none refl

pub lent_emptied : (ws : List ℕ) → row_places ≤ length ws → Lent (emptied ws)
lent_emptied ws h = Lent.blank (omega (arith, emptied_length ws h)) (emptied_blank ws)

pub rowed_start : (ws keys : List ℕ) → Lent ws → Rowed ws ws (take 0 keys)
rowed_start ws keys h = record { lent = h; is = sym (marked_none ws); pairs = pairs_none }

pub rowed_more : (ws₀ ws ws' keys : List ℕ) (n key : ℕ) → Rowed ws₀ ws (take n keys) → PairKey key → n < length keys → ws' ≡ with_key ws key →
    Rowed ws₀ ws' (take (n + 1) (set keys n key))
rowed_more ws₀ ws ws' keys n key g p h e =
    rw (add-one n, take-suc-set keys n key h)
    (record {
      lent = g.lent;
      is = e ∙ ap (λ (us : List ℕ). with_key us key) g.is ∙ sym (marked_more ws₀ (take n keys) key);
      pairs = pairs_more (take n keys) key g.pairs p;
    })

-- ---- A pair that the rows do not say is not among the keys

elem_at : (key : ℕ) (xs : List ℕ) (k : ℕ) → k < length xs → get_or xs k 0 ≡ key → elem key xs ≡ true
unfolding elem
elem_at key [] k h e = absurd (omega arith)
elem_at key (x ∷ xs) zero h e = rw (eq-eqb key x (sym e))
elem_at key (x ∷ xs) (suc k) h e = go (eqb key x) (elem_at key xs k (omega arith) e)
  where
    go : (t : Bool) → elem key xs ≡ true → cond t true (elem key xs) ≡ true
    go true r = refl
    go false r = r

new_missed : (ws keys : List ℕ) (count key : ℕ) → elem key (take count keys) ≡ false → count ≤ length keys → Searching keys key count count
unfolding elem
new_missed ws keys count key e room =
    record {
      within = omega arith;
      room = room;
      same = e ∙ sym (ap (elem key) (drop_of_length-le (take count keys) {i = count} (omega (arith, length-take-le count keys room))));
      missed = record { none = λ k low high q. true_false (sym (elem_at key (take count keys) k (omega (arith, length-take-le count keys room)) (get_or-take count keys k 0 high ∙ q)) ∙ e) };
    }

pub new_none : (ws keys : List ℕ) (count key : ℕ) (t : Bool) → Asking ws keys count key → t ≡ new_in ws key → t ≡ true → Searching keys key count count
unfolding new_in
new_none ws keys count key t g e h = go (eqb (length ws) 0) refl (has_bit ws (in_row (key / 1024) (key % 1024))) refl (sym h ∙ e)
  where
    nonzero : eqb (length ws) 0 ≡ false → length ws ≡ 0 → ⊥
    nonzero q z = true_false (sym (eq-eqb (length ws) 0 z) ∙ q)

    go : (s : Bool) → eqb (length ws) 0 ≡ s → (u : Bool) → has_bit ws (in_row (key / 1024) (key % 1024)) ≡ u → true ≡ cond s false (not u) → Searching keys key count count
    go true es u eu q = true_false q
    go false es true eu q = true_false q
    go false es false eu q = new_missed ws keys count key (sym (g.tells (nonzero es)) ∙ eu) (omega (arith, g.few, g.key_room))
