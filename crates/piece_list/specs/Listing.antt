-- Heads and sizes listed from the labels, atom by atom.
use Rattle.std.specs.Prelude.{ℕ, suc, ◌+◌, ◌-◌, ◌≤◌, ◌<◌, ◌≡◌, List, [], ◌∷◌, ◌++◌, map, ◌≢◌, length, get_or, set, take}
use Rattle.std.proofs.Common.{arith, add-one, sym, ap, ◌∙◌, append_assoc, append-nil, length-set, take-suc-set, get_or-set_other}
use Rattle.rules.specs.Record.{limit}
use Rattle.piece_list.specs.Heads.{Below, size_in, heads_from, heads_hit, heads_miss}

-- a list of zeros
pub record Blank (xs : List ℕ) : Type 0 where
  pub room : length xs ≡ limit
  pub zeros : (j : ℕ) → get_or xs j 0 ≡ 0

-- heads and sizes of the first i atoms stand in the rows, zeros behind them
pub record Listing (ls : List ℕ) (n : ℕ) (heads sizes : List ℕ) (i count : ℕ) : Type 0 where
  pub within : i ≤ n
  pub most : n ≤ limit
  pub low : Below n ls
  pub few : count ≤ i
  pub head_room : length heads ≡ limit
  pub size_room : length sizes ≡ limit
  pub head_same : heads_from ls 0 n ≡ take count heads ++ heads_from ls i (n - i)
  pub size_same : map (size_in ls n) (heads_from ls 0 n) ≡ take count sizes ++ map (size_in ls n) (heads_from ls i (n - i))
  pub no_head : (j : ℕ) → count ≤ j → get_or heads j 0 ≡ 0
  pub no_size : (j : ℕ) → count ≤ j → get_or sizes j 0 ≡ 0

pub listing_start : (ls : List ℕ) (n : ℕ) (heads sizes : List ℕ) → n ≤ limit → Below n ls → Blank heads → Blank sizes → Listing ls n heads sizes 0 0
listing_start ls n heads sizes m low h s =
    let e : n ≡ n - 0 = omega arith in
    record {
      within = omega arith;
      most = m;
      low = low;
      few = omega arith;
      head_room = h.room;
      size_room = s.room;
      head_same = ap (heads_from ls 0) e;
      size_same = ap (λ (k : ℕ). map (size_in ls n) (heads_from ls 0 k)) e;
      no_head = λ j l. h.zeros j;
      no_size = λ j l. s.zeros j;
    }

module _ (ls : List ℕ) (n : ℕ) (heads sizes : List ℕ) (i count : ℕ) (g : Listing ls n heads sizes i count) (h : i < n) where
  left : n - i ≡ suc (n - (i + 1))
  left = omega arith

  on : List ℕ
  on = heads_from ls (i + 1) (n - (i + 1))

  miss : (get_or ls i 0 ≡ i + 1 → ⊥) → heads_from ls i (n - i) ≡ heads_from ls (i + 1) (n - (i + 1))
  miss ne =
      ap (heads_from ls i) left ∙ heads_miss ls i (n - (i + 1)) (λ e. ne (e ∙ sym (add-one i))) ∙ ap (λ (a : ℕ). heads_from ls a (n - (i + 1))) (sym (add-one i))

  hit : get_or ls i 0 ≡ i + 1 → heads_from ls i (n - i) ≡ (i + 1) ∷ heads_from ls (i + 1) (n - (i + 1))
  hit e =
      ap (heads_from ls i) left ∙ heads_hit ls i (n - (i + 1)) (e ∙ add-one i)
      ∙ ap (λ (a : ℕ). a ∷ heads_from ls a (n - (i + 1))) (sym (add-one i))

  pub listing_miss : (get_or ls i 0 ≡ i + 1 → ⊥) → Listing ls n heads sizes (i + 1) count
  listing_miss ne =
      record {
        within = omega arith;
        most = g.most;
        low = g.low;
        few = omega (arith, g.few);
        head_room = g.head_room;
        size_room = g.size_room;
        head_same = g.head_same ∙ ap (λ (hs : List ℕ). take count heads ++ hs) (miss ne);
        size_same = g.size_same ∙ ap (λ (hs : List ℕ). take count sizes ++ map (size_in ls n) hs) (miss ne);
        no_head = g.no_head;
        no_size = g.no_size;
      }

  -- a number more behind the first ones
  grown : (xs : List ℕ) (x : ℕ) (ys : List ℕ) → length xs ≡ limit → take count xs ++ (x ∷ ys) ≡ take (count + 1) (set xs count x) ++ ys
  grown xs x ys l =
      sym (append_assoc (take count xs) (x ∷ []) ys)
      ∙ ap (λ (zs : List ℕ). zs ++ ys) (sym (take-suc-set xs count x (omega (arith, g.few, g.most))) ∙ ap (λ (c : ℕ). take c (set xs count x)) (sym (add-one count)))

  none_behind : (xs : List ℕ) (x : ℕ) → ((j : ℕ) → count ≤ j → get_or xs j 0 ≡ 0) → (j : ℕ) → count + 1 ≤ j → get_or (set xs count x) j 0 ≡ 0
  none_behind xs x z j l =
      let ne : j ≢ count = λ e. omega arith in
      get_or-set_other xs count j x 0 ne ∙ z j (omega arith)

  pub listing_hit : (s : ℕ) → get_or ls i 0 ≡ i + 1 → s ≡ size_in ls n (i + 1) → Listing ls n (set heads count (i + 1)) (set sizes count s) (i + 1) (count + 1)
  listing_hit s e q =
      record {
        within = omega arith;
        most = g.most;
        low = g.low;
        few = omega (arith, g.few);
        head_room = length-set heads count (i + 1) ∙ g.head_room;
        size_room = length-set sizes count s ∙ g.size_room;
        head_same = g.head_same ∙ ap (λ (hs : List ℕ). take count heads ++ hs) (hit e) ∙ grown heads (i + 1) (heads_from ls (i + 1) (n - (i + 1))) g.head_room;
        size_same =
            g.size_same ∙ ap (λ (hs : List ℕ). take count sizes ++ map (size_in ls n) hs) (hit e)
            ∙ ap (λ (x : ℕ). take count sizes ++ (x ∷ map (size_in ls n) (heads_from ls (i + 1) (n - (i + 1))))) (sym q)
            ∙ grown sizes s (map (size_in ls n) (heads_from ls (i + 1) (n - (i + 1)))) g.size_room;
        no_head = none_behind heads (i + 1) g.no_head;
        no_size = none_behind sizes s g.no_size;
      }

-- all listed
pub record Listed (ls : List ℕ) (n : ℕ) (heads sizes : List ℕ) (count : ℕ) : Type 0 where
  pub few : count ≤ n
  pub head_room : length heads ≡ limit
  pub size_room : length sizes ≡ limit
  pub heads_are : take count heads ≡ heads_from ls 0 n
  pub sizes_are : take count sizes ≡ map (size_in ls n) (heads_from ls 0 n)
  pub no_head : (j : ℕ) → count ≤ j → get_or heads j 0 ≡ 0
  pub no_size : (j : ℕ) → count ≤ j → get_or sizes j 0 ≡ 0

pub listing_end : (ls : List ℕ) (n : ℕ) (heads sizes : List ℕ) (i count : ℕ) → Listing ls n heads sizes i count → n ≤ i → Listed ls n heads sizes count
unfolding heads_from
listing_end ls n heads sizes i count g h =
    let e : n - i ≡ 0 = omega arith in
    record {
      few = omega (arith, g.few, g.within);
      head_room = g.head_room;
      size_room = g.size_room;
      heads_are = sym (g.head_same ∙ ap (λ (k : ℕ). take count heads ++ heads_from ls i k) e ∙ append-nil (take count heads));
      sizes_are = sym (g.size_same ∙ ap (λ (k : ℕ). take count sizes ++ map (size_in ls n) (heads_from ls i k)) e ∙ append-nil (take count sizes));
      no_head = g.no_head;
      no_size = g.no_size;
    }
