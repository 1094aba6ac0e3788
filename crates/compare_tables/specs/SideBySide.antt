-- Two lists gone through side by side: what is noted from here on is what is noted of the whole.
use Rattle.std.specs.Prelude.{ℕ, zero, suc, ◌+◌, ◌-◌, ◌*◌, ◌^◌, ◌<◌, ◌≤◌, ◌≡◌, refl, length, take, ℤ, pos}
use Rattle.std.proofs.Common.{arith, mul-suc, add-one, ◌∙◌, drop_of_length-le, SFits, of_z, to_z, to_z-of_z}
use Rattle.std.proofs.Math.Path.{sym, ap, ap₂}
use mathlib.Core.List.{List, [], ◌∷◌}
use Rattle.std.proofs.Math.ListN.{get_or, drop}
use Rattle.std.proofs.Math.Seq.{drop-cons}
use Rattle.std.specs.Int.{w32}
use Rattle.rules.specs.Rows.{rows_of, rows_length, rows_at}
use Rattle.compare_rules.specs.declared.Place.{Place}
use Rattle.compare_rules.specs.declared.Count.{Count}
use Rattle.compare_rules.specs.Along.{Compared, along}
use Rattle.compare_rules.specs.Differences.{Difference, place, figures, fieldwise, rowwise}
use Rattle.compare_rules.specs.Log.{Log, log, noted, Small}
use Rattle.compare_rules.specs.Noted.{noted_joined, noted_length}

-- k places are passed, from g₀ to g
pub record Going {A : Type 0} (c : Compared A Difference) (xs ys : List A) (g₀ g : Log) (k : ℕ) : Type 0 where
  pub within : k ≤ length xs
  pub level : length xs ≡ length ys
  pub same : noted g₀ (along c 1 xs ys) ≡ noted g (along c (k + 1) (drop k xs) (drop k ys))

module _ {A : Type 0} (c : Compared A Difference) (xs ys : List A) (g₀ : Log) where
  pub going_start : length xs ≡ length ys → Going c xs ys g₀ g₀ 0
  going_start h = record { within = omega arith; level = h; same = refl }

  module _ (g : Log) (k : ℕ) (w : Going c xs ys g₀ g k) where
    pub going_next : (d : A) (g' : Log) → k < length xs → g' ≡ noted g (c.both (k + 1) (get_or xs k d) (get_or ys k d)) → Going c xs ys g₀ g' (k + 1)
    unfolding along
    going_next d g' h e =
        let a : drop k xs ≡ get_or xs k d ∷ drop (k + 1) xs = drop-cons xs k d h ∙ ap (λ (i : ℕ). get_or xs k d ∷ drop i xs) (sym (add-one k)) in
        let b : drop k ys ≡ get_or ys k d ∷ drop (k + 1) ys = drop-cons ys k d (omega (arith, w.level)) ∙ ap (λ (i : ℕ). get_or ys k d ∷ drop i ys) (sym (add-one k)) in
        record {
          within = omega arith;
          level = w.level;
          same =
              w.same
              ∙ ap₂ (λ (t u : List A). noted g (along c (k + 1) t u)) a b
              ∙ noted_joined g (c.both (k + 1) (get_or xs k d) (get_or ys k d)) (along c (suc (k + 1)) (drop (k + 1) xs) (drop (k + 1) ys))
              ∙ ap₂ (λ (i : ℕ) (f : Log). noted f (along c i (drop (k + 1) xs) (drop (k + 1) ys))) (sym (add-one (k + 1))) (sym e);
        }

    -- the lent list keeps its length
    pub going_long : length g.list ≡ length g₀.list
    going_long =
        sym (noted_length g (along c (k + 1) (drop k xs) (drop k ys)))
        ∙ ap (λ (f : Log). length f.list) (sym w.same)
        ∙ noted_length g₀ (along c 1 xs ys)

    pub going_end : length xs ≤ k → g ≡ noted g₀ (along c 1 xs ys)
    unfolding along noted
    going_end h =
        let n = w.level in
        sym (w.same ∙ ap₂ (λ (t u : List A). noted g (along c (k + 1) t u)) (drop_of_length-le xs h) (drop_of_length-le ys {i = k} (omega arith)))

-- ---- A row

-- p says which row; its field is of no account
abbrev pub row_of : Place → Compared ℤ Difference
row_of p = fieldwise p.position p.part p.index

abbrev pub Rowing : Place → List ℤ → List ℤ → List ℤ → Count → List ℤ → Count → ℕ → Type 0
Rowing p a b l₀ c₀ l c k = Going (row_of p) a b (log l₀ c₀) (log l c) k

module _ (p : Place) (a b l₀ l : List ℤ) (c₀ c : Count) (k : ℕ) (w : Rowing p a b l₀ c₀ l c k) where
  pub row_long : length l ≡ length l₀
  row_long = going_long (row_of p) a b (log l₀ c₀) (log l c) k w

  pub row_small : Small p → length a * 4 < 2 ^ 63 → k < length a → Small (place p.position p.part p.index (k + 1))
  row_small s h f = record { position = s.position; part = s.part; index = s.index; field = omega arith }

  pub row_next : (l' : List ℤ) (c' : Count) → k < length a → SFits w32 (get_or a k (pos 0)) → SFits w32 (get_or b k (pos 0)) →
      log l' c' ≡ noted (log l c) (figures (place p.position p.part p.index (k + 1)) (to_z w32 (of_z w32 (get_or a k (pos 0)))) (to_z w32 (of_z w32 (get_or b k (pos 0))))) →
      Rowing p a b l₀ c₀ l' c' (k + 1)
  row_next l' c' h f g e =
      going_next (row_of p) a b (log l₀ c₀) (log l c) k w (pos 0) (log l' c') h
      (e ∙ ap₂ (λ (x y : ℤ). noted (log l c) (figures (place p.position p.part p.index (k + 1)) x y)) (to_z-of_z f) (to_z-of_z g))

-- ---- A table

-- p says which record and part
abbrev pub table_of : Place → Compared (List ℤ) Difference
table_of p = rowwise p.position p.part

abbrev pub Tabling : Place → ℕ → ℕ → List ℤ → List ℤ → List ℤ → Count → List ℤ → Count → ℕ → Type 0
Tabling p width n a b l₀ c₀ l c i = Going (table_of p) (rows_of width n a) (rows_of width n b) (log l₀ c₀) (log l c) i

pub row_inside : (width n i : ℕ) → i < n → width * i + width ≤ width * n
row_inside width zero i h = absurd (omega arith)
row_inside width (suc n) zero h = let e : width * suc n ≡ width + width * n = mul-suc width n ∙ omega arith in let z : width * 0 ≡ 0 = omega arith in omega arith
row_inside width (suc n) (suc i) h =
    let e : width * suc n ≡ width + width * n = mul-suc width n ∙ omega arith in
    let f : width * suc i ≡ width + width * i = mul-suc width i ∙ omega arith in
    omega (arith, row_inside width n i (omega arith))

module _ (p : Place) (width n : ℕ) (a b l₀ : List ℤ) (c₀ : Count) where
  pub table_start : Tabling p width n a b l₀ c₀ l₀ c₀ 0
  table_start = going_start (table_of p) (rows_of width n a) (rows_of width n b) (log l₀ c₀) (rows_length width n a ∙ sym (rows_length width n b))

  module _ (l : List ℤ) (c : Count) (i : ℕ) (w : Tabling p width n a b l₀ c₀ l c i) where
    pub table_next : (l' : List ℤ) (c' : Count) → i < n →
        log l' c' ≡ noted (log l c) (along (fieldwise p.position p.part (i + 1)) 1 (take (width * i + width - width * i) (drop (width * i) a)) (take (width * i + width - width * i) (drop (width * i) b))) →
        Tabling p width n a b l₀ c₀ l' c' (i + 1)
    table_next l' c' h e =
        let z : width * i + width - width * i ≡ width = omega arith in
        let o = rows_length width n a in
        going_next (table_of p) (rows_of width n a) (rows_of width n b) (log l₀ c₀) (log l c) i w [] (log l' c') (omega arith)
        (e ∙ ap (λ (v : ℕ). noted (log l c) (along (fieldwise p.position p.part (i + 1)) 1 (take v (drop (width * i) a)) (take v (drop (width * i) b)))) z
        ∙ ap₂ (λ (t u : List ℤ). noted (log l c) (along (fieldwise p.position p.part (i + 1)) 1 t u)) (sym (rows_at width n a i h)) (sym (rows_at width n b i h)))

    pub table_long : length l ≡ length l₀
    table_long = going_long (table_of p) (rows_of width n a) (rows_of width n b) (log l₀ c₀) (log l c) i w

    pub table_end : n ≤ i → log l c ≡ noted (log l₀ c₀) (along (table_of p) 1 (rows_of width n a) (rows_of width n b))
    table_end h = going_end (table_of p) (rows_of width n a) (rows_of width n b) (log l₀ c₀) (log l c) i w (let o = rows_length width n a in omega arith)

pub ruleset row_laws = (going_start, row_long, row_small, row_next, going_end)

pub ruleset table_laws = (table_start, table_long, row_inside, table_next, table_end)
