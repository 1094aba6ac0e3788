-- Each place of the catalogue has one record: so of the record at a place the join says one thing.
use Rattle.std.specs.Prelude.{ℕ, zero, suc, ◌+◌, ◌≤◌, ◌<◌, ◌≡◌, Bool, cond, ◌&&◌}
use Rattle.std.proofs.Common.{arith, add-zero, ◌∙◌}
use Rattle.std.proofs.Math.Path.{refl}
use mathlib.Core.List.{List, [], ◌∷◌, ◌++◌}
use Rattle.std.proofs.Math.Bool.{true, false, and-false}
use Rattle.std.proofs.Math.Dec.{eqb}
use Rattle.std.proofs.Math.ListN.{length}
use borrow.Author.Tests.{eq-eqb, ne_eqb, eqb-true, eqb-false}
use Rattle.rules.specs.Record.{Raw}
use Rattle.store_log.specs.Log.{Bytes}
use Rattle.store_log.specs.Read.{replay_log}
use Rattle.stock_rules.specs.Key.{Terms, record_key}
use Rattle.stock_rules.specs.Join.{Place, Entry, entries_in, entries_from, entries_of, picked, never_in, keyless_in}
use Rattle.stock_rules.specs.EachOnce.{how_many, under, each_once, log_each}

abbrev pub is_at : Place → Entry → Bool
is_at p e = eqb e.place.file p.file && eqb e.place.number p.number

abbrev at : ℕ → ℕ → Place
at file number = record { file = file; number = number }

-- how many records file i has, from 0
unfoldable pub records_at : ℕ → List (List Raw) → ℕ
records_at i [] = 0
records_at zero (xs ∷ fs) = length xs
records_at (suc i) (xs ∷ fs) = records_at i fs

-- ---- In one file

module _ (t : Terms) (file : ℕ) where
  other_file : (g n k : ℕ) (xs : List Raw) → (file ≡ g → ⊥) → how_many (is_at (at g n)) (entries_in t file k xs) ≡ 0
  unfolding entries_in picked
  other_file g n k [] h = refl
  other_file g n k (x ∷ xs) h = rw (ne_eqb file g h) (other_file g n (k + 1) xs h)

  before_file : (n k : ℕ) (xs : List Raw) → n < k → how_many (is_at (at file n)) (entries_in t file k xs) ≡ 0
  unfolding entries_in picked
  before_file n k [] h = refl
  before_file n k (x ∷ xs) h = rw (ne_eqb k n (λ e. omega (arith, e)), and-false (eqb file file)) (before_file n (k + 1) xs (omega arith))

  in_file : (n k : ℕ) (xs : List Raw) → k ≤ n → n < k + length xs → how_many (is_at (at file n)) (entries_in t file k xs) ≡ 1
  unfolding entries_in picked
  in_file n k [] h l = absurd (omega arith)
  in_file n k (x ∷ xs) h l = rw (eq-eqb file file refl) (go (eqb k n) refl (λ a b. in_file n (k + 1) xs a b))
    where
      go : (b : Bool) → eqb k n ≡ b → (k + 1 ≤ n → n < k + 1 + length xs → how_many (is_at (at file n)) (entries_in t file (k + 1) xs) ≡ 1) →
          length (cond b (record { place = at file k; keyed = record_key t x.items } ∷ picked (is_at (at file n)) (entries_in t file (k + 1) xs))
          (picked (is_at (at file n)) (entries_in t file (k + 1) xs))) ≡ 1
      go true e again = let z = before_file n (k + 1) xs (let q = eqb-true k n e in omega (arith, q)) in omega (arith, z)
      go false e again = again (let q = eqb-false k n e in omega (arith, q)) (omega arith)

-- ---- In all files

how_many_both : (f : Entry → Bool) (xs ys : List Entry) → how_many f (xs ++ ys) ≡ how_many f xs + how_many f ys
unfolding picked
how_many_both f [] ys = omega arith
how_many_both f (x ∷ xs) ys = go (f x) (how_many_both f xs ys)
  where
    go : (b : Bool) → how_many f (xs ++ ys) ≡ how_many f xs + how_many f ys →
        length (cond b (x ∷ picked f (xs ++ ys)) (picked f (xs ++ ys))) ≡ length (cond b (x ∷ picked f xs) (picked f xs)) + how_many f ys
    go true e = omega (arith, e)
    go false e = e

later_files : (t : Terms) (g n file : ℕ) (fs : List (List Raw)) → g < file → how_many (is_at (at g n)) (entries_from t file fs) ≡ 0
unfolding entries_from picked
later_files t g n file [] h = refl
later_files t g n file (xs ∷ fs) h =
    let a = how_many_both (is_at (at g n)) (entries_in t file 1 xs) (entries_from t (file + 1) fs) in
    let b = other_file t file g n 1 xs (λ e. omega (arith, e)) in
    let c = later_files t g n (file + 1) fs (omega arith) in
    omega (arith, a, b, c)

place_from_lem : (t : Terms) (file i n : ℕ) (fs : List (List Raw)) → 1 ≤ n → n ≤ records_at i fs → how_many (is_at (at (file + i) n)) (entries_from t file fs) ≡ 1
unfolding entries_from records_at picked
place_from_lem t file i n [] h l = absurd (omega arith)
place_from_lem t file zero n (xs ∷ fs) h l =
    let z = add-zero file in
    let a = how_many_both (is_at (at (file + 0) n)) (entries_in t file 1 xs) (entries_from t (file + 1) fs) in
    let b : how_many (is_at (at (file + 0) n)) (entries_in t file 1 xs) ≡ 1 = rw z (in_file t file n 1 xs h (omega arith)) in
    let c = later_files t (file + 0) n (file + 1) fs (omega (arith, z)) in
    omega (arith, a, b, c)
place_from_lem t file (suc i) n (xs ∷ fs) h l =
    let z : file + suc i ≡ file + 1 + i = omega arith in
    let a = how_many_both (is_at (at (file + suc i) n)) (entries_in t file 1 xs) (entries_from t (file + 1) fs) in
    let b = other_file t file (file + suc i) n 1 xs (λ e. omega (arith, e)) in
    let c : how_many (is_at (at (file + suc i) n)) (entries_from t (file + 1) fs) ≡ 1 = rw z (place_from_lem t (file + 1) i n fs h l) in
    omega (arith, a, b, c)

-- record n of file i + 1 is counted under one lot, or listed once
pub record_once : (log : Bytes) (t : Terms) (fs : List (List Raw)) (i n : ℕ) → 1 ≤ n → n ≤ records_at i fs →
    under (is_at (at (1 + i) n)) (replay_log log).store (entries_of t fs) + how_many (is_at (at (1 + i) n)) (never_in (replay_log log).store (entries_of t fs)) +
    how_many (is_at (at (1 + i) n)) (keyless_in (entries_of t fs)) ≡ 1
record_once log t fs i n h l = each_once (is_at (at (1 + i) n)) (replay_log log).store (log_each log) (entries_of t fs) ∙ place_from_lem t 1 i n fs h l
