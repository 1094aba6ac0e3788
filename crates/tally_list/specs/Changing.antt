-- The change at the place where a search has ended, in the facts that the code has.
use Rattle.std.specs.Prelude.{ℕ, suc, ◌+◌, ◌-◌, ◌≤◌, ◌<◌, ◌≡◌, ◌++◌, Bool, length, get_or, set, take, replicate}
use Rattle.std.proofs.Common.{arith, add-one, ap, ◌∙◌, length-set, length-take-le, take-suc, take_all, le-ltb, lt-ltb, leb-true, leb-false}
use Rattle.std.proofs.Math.Path.{refl, sym}
use Rattle.std.proofs.Math.Bool.{true, false, cond}
use Rattle.std.proofs.lemmas.Bool.{false≢true}
use Rattle.std.proofs.Math.Dec.{leb}
use Rattle.std.proofs.Math.Seq.{append_snoc}
use Rattle.std.proofs.lemmas.List.{set_at}
use Rattle.text.specs.Text.{Bytes}
use Rattle.tally_rules.specs.declared.Order.{Order}
use Rattle.tally_rules.specs.declared.Tally.{Tally}
use Rattle.tally_rules.specs.Tally.{most_suppliers, longest, most_records, order, name_of, fresh, one_more}
use Rattle.tally_flat.specs.declared.Added.{Added}
use Rattle.tally_list.specs.Change.{same_as, within, is_here, change_of, Ready}

-- ---- The place, and whether the name stands there

pub within_in : (at : ℕ) → at < most_suppliers → at ≡ within at
unfolding within
within_in at h = rw (lt-ltb at most_suppliers h)

pub within_out : (at : ℕ) → most_suppliers ≤ at → 63 ≡ within at
unfolding within
within_out at h = rw (le-ltb at most_suppliers h)

le-leb : (a b : ℕ) → a ≤ b → leb a b ≡ true
le-leb a b h = go (leb a b) refl
  where
    go : (x : Bool) → leb a b ≡ x → leb a b ≡ true
    go true e = e
    go false e = let l = leb-false a b e in absurd (omega arith)

lt-leb : (a b : ℕ) → b < a → leb a b ≡ false
lt-leb a b h = go (leb a b) refl
  where
    go : (x : Bool) → leb a b ≡ x → leb a b ≡ false
    go true e = let l = leb-true a b e in absurd (omega arith)
    go false e = e

pub not_used : (t : Tally) (at used : ℕ) (n : Bytes) → used ≤ at → false ≡ is_here t at used n
unfolding is_here
not_used t at used n h = rw (le-leb used at h)

pub here_told : (t : Tally) (at used : ℕ) (n : Bytes) → at < used → (o : Order) → o ≡ order (take t.length t.name) n → (r : Bool) → r ≡ same_as o → r ≡ is_here t at used n
unfolding is_here
here_told t at used n h o eo r er = rw (lt-leb used at h) (er ∙ ap same_as eo)

-- ---- A new tally's bytes, of which the first i are put

abbrev zeros : ℕ → Bytes
zeros k = replicate k 0

abbrev filled : Bytes → ℕ → Bytes
filled n i = take i n ++ zeros (longest - i)

pub record Filling (n bs : Bytes) (i : ℕ) : Type 0 where
  pub inside : i ≤ length n
  pub name : length n ≤ longest
  pub is : bs ≡ filled n i
  pub size : length bs ≡ longest

pub filling_start : (n : Bytes) → length n ≤ longest → Filling n (zeros 24) 0
filling_start n h = record { inside = omega arith; name = h; is = refl; size = refl }

pub filling_next : (n bs : Bytes) (i : ℕ) → Filling n bs i → i < length n → Filling n (set bs i (get_or n i 0)) (i + 1)
filling_next n bs i f h =
    let a : longest - i ≡ suc (longest - (i + 1)) = omega (arith, f.name) in
    let v = get_or n i 0 in
    let rest = zeros (longest - (i + 1)) in
    record {
      inside = omega arith;
      name = f.name;
      is =
          ap (λ (xs : Bytes). set xs i v) f.is
          ∙ ap (λ (k : ℕ). set (take i n ++ zeros k) i v) a
          ∙ set_at (take i n) 0 rest v i (length-take-le i n f.inside)
          ∙ sym (append_snoc (take i n) v rest)
          ∙ ap (λ (xs : Bytes). xs ++ rest) (sym (take-suc n i 0 h))
          ∙ ap (λ (k : ℕ). take k n ++ rest) (sym (add-one i));
      size = length-set bs i v ∙ f.size;
    }

pub filling_end : (n bs : Bytes) (i : ℕ) → Filling n bs i → length n ≤ i → record { name = bs; length = length n; count = 1 } ≡ fresh n
filling_end n bs i f h =
    let e : i ≡ length n = omega (arith, f.inside) in
    let a : bs ≡ n ++ zeros (longest - length n) =
    f.is ∙ ap (filled n) e ∙ ap (λ (xs : Bytes). xs ++ zeros (longest - length n)) (take_all (length n) n (omega arith)) in
    ap (λ (xs : Bytes). record { name = xs; length = length n; count = 1 }) a

-- ---- The change, by what was found

module _ (t : Tally) (at used : ℕ) (n : Bytes) (b : Bool) (is : b ≡ is_here t at used n) where
  pub here_small : Ready t at used n → b ≡ true → t.count ≤ most_records
  unfolding is_here
  here_small g e = go (leb used at) refl (sym is ∙ e)
    where
      go : (x : Bool) → leb used at ≡ x → cond x false (same_as (order (name_of t) n)) ≡ true → t.count ≤ most_records
      go true l q = absurd (false≢true q)
      go false l q = g.small (leb-false used at l)

  pub change_here : (x : Tally) → x ≡ one_more t → b ≡ true → record { end = at; tally = x; now = Added.Now used } ≡ change_of t at used n
  unfolding change_of
  change_here x ex e =
      let c : is_here t at used n ≡ true = sym is ∙ e in
      rw c (ap (λ (y : Tally). record { end = at; tally = y; now = Added.Now used }) ex)

  pub change_full : (k : ℕ) → k ≡ within at → b ≡ false → most_suppliers ≤ used → record { end = k; tally = t; now = Added.Full } ≡ change_of t at used n
  unfolding change_of
  change_full k ek e h =
      let c : is_here t at used n ≡ false = sym is ∙ e in
      rw (c, le-leb most_suppliers used h) (ap (λ (j : ℕ). record { end = j; tally = t; now = Added.Full }) ek)

  pub change_new : (x : Tally) → x ≡ fresh n → b ≡ false → used < most_suppliers → record { end = used; tally = x; now = Added.Now (used + 1) } ≡ change_of t at used n
  unfolding change_of
  change_new x ex e h =
      let c : is_here t at used n ≡ false = sym is ∙ e in
      rw (c, lt-leb most_suppliers used h) (ap (λ (y : Tally). record { end = used; tally = y; now = Added.Now (used + 1) }) ex)
