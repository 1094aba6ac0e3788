-- Pairs entered in the rows, one after the other, each by its key and in the rows of both its ends: the rows then say the pairs.
use Rattle.std.specs.Prelude.{ℕ, ◌+◌, ◌*◌, ◌/◌, ◌%◌, ◌≤◌, ◌<◌, ◌^◌, ◌≡◌, refl, Bool, true, false, cond, ◌&&◌, ◌||◌, eqb, ltb, length}
use Rattle.std.proofs.Common.{arith, ◌∙◌, get_or-take, take_at, ltb-true, ltb-false}
use Rattle.std.proofs.Math.Path.{sym, ap}
use mathlib.Core.List.{List, [], ◌∷◌, ◌++◌}
use Rattle.std.proofs.Math.ListN.{get_or, drop, replicate, length-append, length-replicate, length-drop, get_or-replicate}
use Rattle.std.proofs.Math.Seq.{drop_at, set_out}
use Rattle.rules.specs.Forms.{Bond}
use Rattle.rules.specs.Record.{limit}
use Rattle.sets_words.specs.Bits.{has_bit, word_with, with_bit, in_row}
use Rattle.sets_words.specs.Members.{row_put_has, put_length}
use Rattle.judge_pairs.specs.Taken.{same_pair, pair_taken}
use Rattle.reader_pairs.specs.Keys.{pair_key}
use Rattle.reader_rows.specs.Says.{row_places, joined, Says, emptied}

-- ---- One pair

-- a pair entered in the rows of both its atoms
unfoldable pub with_pair : List ℕ → ℕ → ℕ → List ℕ
with_pair ws a b = with_bit (with_bit ws (in_row a b)) (in_row b a)

-- by its key
abbrev pub with_key : List ℕ → ℕ → List ℕ
with_key ws key = with_pair ws (key / 1024) (key % 1024)

-- the key of a pair of atoms, the lower one first
pub record PairKey (key : ℕ) : Type 0 where
  pub low : 1 ≤ key / 1024
  pub ordered : key / 1024 ≤ key % 1024
  pub high : key % 1024 ≤ limit

turn : (s t u : Bool) → (s || (t || u)) ≡ ((t || s) || u)
turn true true u = refl
turn true false u = refl
turn false true u = refl
turn false false u = refl

-- exactly this pair is said more
pub pair_has : (ws : List ℕ) (x y a b : ℕ) → 1 ≤ x → x ≤ limit → 1 ≤ y → y ≤ limit → row_places ≤ length ws → 1 ≤ a → 1 ≤ b → b ≤ 1024 →
    has_bit (with_pair ws x y) (in_row a b) ≡ (((eqb a x && eqb b y) || (eqb a y && eqb b x)) || has_bit ws (in_row a b))
unfolding with_pair
pair_has ws x y a b lx hx ly hy room la lb hb =
    row_put_has (with_bit ws (in_row x y)) y x a b ly lx (omega arith) (omega (arith, put_length ws (in_row x y))) la lb hb
    ∙ ap (λ (t : Bool). (eqb a y && eqb b x) || t) (row_put_has ws x y a b lx ly (omega arith) (omega arith) la lb hb)
    ∙ turn (eqb a y && eqb b x) (eqb a x && eqb b y) (has_bit ws (in_row a b))

-- without rows there is nothing to enter it in
pub none_with : (ws : List ℕ) (a b : ℕ) → length ws ≡ 0 → ws ≡ with_pair ws a b
unfolding with_pair with_bit
none_with ws a b e =
    sym
    (set_out (with_bit ws (in_row a b)) (in_row b a / 64) (word_with (get_or (with_bit ws (in_row a b)) (in_row b a / 64) 0) (in_row b a % 64)) (omega (arith, put_length ws (in_row a b)))
    ∙ set_out ws (in_row a b / 64) (word_with (get_or ws (in_row a b / 64) 0) (in_row a b % 64)) (omega arith))

-- ---- Words

-- every word is one of 64 bits
pub record Words (ws : List ℕ) : Type 0 where
  pub below : (i : ℕ) → i < row_places → get_or ws i 0 < 2 ^ 64

-- ---- Pairs one after the other

unfoldable pub marked : List ℕ → List ℕ → List ℕ
marked ws [] = ws
marked ws (k ∷ ks) = marked (with_key ws k) ks

unfoldable pub AllPairs : List ℕ → Type 0
AllPairs [] = Unit {0}
AllPairs (k ∷ ks) = PairKey k × AllPairs ks

pub marked_none : (ws : List ℕ) → marked ws [] ≡ ws
unfolding marked
marked_none ws = refl

pub pairs_none : AllPairs []
unfolding AllPairs
pairs_none = tt

pub marked_more : (ws ks : List ℕ) (k : ℕ) → marked ws (ks ++ (k ∷ [])) ≡ with_key (marked ws ks) k
unfolding marked
marked_more ws [] k = refl
marked_more ws (x ∷ ks) k = marked_more (with_key ws x) ks k

pub pairs_more : (ks : List ℕ) (k : ℕ) → AllPairs ks → PairKey k → AllPairs (ks ++ (k ∷ []))
unfolding AllPairs
pairs_more [] k h g = (g, tt)
pairs_more (x ∷ ks) k h g = (h.0, pairs_more ks k h.1 g)

-- ---- Keys

pub key_pair : (x y : ℕ) → 1 ≤ x → x ≤ limit → 1 ≤ y → y ≤ limit → PairKey (pair_key x y)
unfolding pair_key
key_pair x y lx hx ly hy = go (ltb x y) refl
  where
    go : (t : Bool) → ltb x y ≡ t → PairKey (cond t (1024 * x + y) (1024 * y + x))
    go true e = let l = ltb-true x y e in record { low = omega arith; ordered = omega arith; high = omega arith }
    go false e = let l = ltb-false x y e in record { low = omega arith; ordered = omega arith; high = omega arith }

-- ---- From empty rows on

module _ (ws : List ℕ) where
  pub emptied_length : row_places ≤ length ws → length (emptied ws) ≡ length ws
  unfolding emptied
  emptied_length h = length-append (replicate row_places 0) (drop row_places ws) ∙ omega (arith, length-replicate {A = ℕ} row_places 0, length-drop row_places ws)

  pub emptied_past : drop row_places (emptied ws) ≡ drop row_places ws
  unfolding emptied
  emptied_past = drop_at (replicate row_places 0) (drop row_places ws) row_places (length-replicate {A = ℕ} row_places 0)

  pub emptied_same : (vs : List ℕ) → drop row_places ws ≡ drop row_places vs → emptied ws ≡ emptied vs
  unfolding emptied
  emptied_same vs e = ap (λ (us : List ℕ). replicate row_places 0 ++ us) e

  emptied_word : (i : ℕ) → i < row_places → get_or (emptied ws) i 0 ≡ 0
  unfolding emptied
  emptied_word i h =
      sym (get_or-take row_places (replicate row_places 0 ++ drop row_places ws) i 0 h)
      ∙ ap (λ (us : List ℕ). get_or us i 0) (take_at (replicate row_places 0) (drop row_places ws) row_places (length-replicate {A = ℕ} row_places 0))
      ∙ get_or-replicate row_places i 0 0 h

pub record Blank (ws : List ℕ) : Type 0 where
  pub zeros : (i : ℕ) → i < row_places → get_or ws i 0 ≡ 0

pub emptied_blank : (ws : List ℕ) → Blank (emptied ws)
emptied_blank ws = record { zeros = emptied_word ws }

-- ---- The rows as the list would answer

-- the search in the list asks the same
pub joined_taken : (b : Bond) (bs : List Bond) → joined b.first b.second bs ≡ pair_taken b bs
unfolding joined pair_taken
joined_taken b [] = refl
joined_taken b (c ∷ cs) = ap (cond (same_pair b c) true) (joined_taken b cs)

pub rows_taken : (ws : List ℕ) (b : Bond) (bs : List Bond) → Says ws bs → 1 ≤ b.first → b.first ≤ limit → 1 ≤ b.second → b.second ≤ limit →
    has_bit ws (in_row b.first b.second) ≡ pair_taken b bs
rows_taken ws b bs g lf hf ls hs = g.pairs b.first b.second lf hf ls (omega arith) ∙ joined_taken b bs
