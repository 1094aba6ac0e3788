-- Each field of a line is judged as the demands on it say.
use Prim.Native.Nat.{ℕ, zero, suc, ◌+◌, ◌-◌, ◌≤◌}
use Prim.Native.String.{String}
use Rattle.std.proofs.Math.Nat.{add-zero, suc-add}
use Rattle.std.proofs.Common.{add-suc, sym, ap, ◌∙◌, subst, inl, inr, get_or-drop}
use native.Mathlib.Omega.{arith}
use Rattle.std.specs.Prelude.{Result, Ok, Err, Option, Some as Found, None, ◌≡◌, Bool, cond, ◌&&◌, eqb, leb, length, get_or, drop, ℤ, pos, negsuc}
use Rattle.std.proofs.Math.Path.{refl}
use mathlib.Core.List.{List, [], ◌∷◌, ◌++◌}
use Rattle.std.proofs.Math.Bool.{true, false}
use Rattle.std.proofs.Math.ListN.{length-drop}
use borrow.Author.Tests.{eqb-true, eqb-false}
use Rattle.text.specs.Text.{Bytes, Line, byte}
use Rattle.text.specs.Columns.{column, columns, Space, Has}
use Rattle.text.specs.Find.{first_from, is_ink, ink_column}
use Rattle.text.specs.Agree.{no_ink, space_no_ink}
use Rattle.text.specs.Laws.{never_both}
use Rattle.field_numbers.specs.Number.{Integer, Number, Signed, Listed, SignedListed}
use Rattle.field_numbers.specs.Read.{IntegerRead, is, malformed, integer_in, ranged, number_in, is_between, signed_ranged, signed_in}
use Rattle.field_numbers.specs.Agree.{integer_read, read_integer}
use Rattle.field_coordinates.specs.Coordinate.{Coordinate}
use Rattle.field_coordinates.specs.Read.{coordinate_in}
use Rattle.field_symbols.specs.Symbol.{Symbol}
use Rattle.field_symbols.specs.Read.{symbol_in}
use Rattle.judge_line.specs.Got.{Got, got, bad, then, need}
use Rattle.judge_line.specs.GotLaws.{bad_got}
use Rattle.judge_line.specs.Field.{number_got, number_at, signed_got, signed_at, elem, listed_at, elem_signed, signed_listed_at, coordinate_got, coordinate_at, symbol_got, symbol_at, space_at, none_found, has}
use Rattle.judge_line.specs.Field as F
use Rattle.judge_line.specs.AgreeField.{all_pass, number_got_lem, number_is, signed_got_lem, signed_is, listed_got, listed_is, signed_listed_got, signed_listed_is, coordinate_got_lem, coordinate_is, symbol_got_lem, symbol_is, has_got, has_is}
use Rattle.judge_refusals.specs.Demand.{Demand, ◌else◌at_column◌, ◌and_then◌, All, Some}
use Rattle.judge_refusals.specs.Refusals.{each_for, number, signed, signed_listed, coordinate, symbol, space, spaces_from_lem}
use Rattle.judge_refusals.specs.Tells.{Tells, value, refusal, past, need_tells, no_more}
use Rattle.field_numbers.specs.declared.NumberFault.{NumberFault}

-- where something else was found, there is no such value
none_such : {A : Type 0} (P : A → Type 0) {x : Got A} {e c : ℕ} → x ≡ bad e c → ((a : A) → P a → x ≡ got a) → ¬ Some P
none_such P h f s = bad_got (sym h ∙ f s.0 s.1)

-- ---- numbers: an integer, and then one of its range

in_range : (least most : ℕ) (z : ℤ) → ¬ (ranged least most (is z) ≡ Err NumberFault.Malformed)
unfolding ranged
in_range least most (pos k) h = go (leb least k && leb k most) h
  where
    go : (t : Bool) → cond t (Ok k) (Err NumberFault.Outside) ≡ Err NumberFault.Malformed → ⊥
    go true h = let z : ◌≡◌ {A = ℕ} 0 1 = cc in omega arith
    go false h = let z : ◌≡◌ {A = ℕ} 0 1 = cc in omega arith
in_range least most (negsuc k) h = let z : ◌≡◌ {A = ℕ} 0 1 = cc in omega arith

number_malformed : (least most : ℕ) (cs : Bytes) → number_in least most cs ≡ Err NumberFault.Malformed → ¬ Some (Integer false cs)
unfolding number_in
number_malformed least most cs h n = in_range least most n.0 (rw (integer_read false n.1) at h)

number_outside : (least most : ℕ) (cs : Bytes) → number_in least most cs ≡ Err NumberFault.Outside → Some (Integer false cs)
unfolding number_in ranged
number_outside least most cs h = go (integer_in false cs) refl h
  where
    go : (r : IntegerRead) → integer_in false cs ≡ r → ranged least most r ≡ Err NumberFault.Outside → Some (Integer false cs)
    go (is z) e h = (z, read_integer false cs z e)
    go malformed e h = absurd (let z : ◌≡◌ {A = ℕ} 0 1 = cc in omega arith)

pub number_tells : (l : Line) (i j least most : ℕ) → Tells (number l i j least most) (number_at l i j least most)
unfolding number_at
number_tells l i j least most = go (number_in least most (columns l i j)) refl
  where
    go : (r : Result ℕ NumberFault) → number_in least most (columns l i j) ≡ r → Tells (number l i j least most) (number_got i r)
    go (Ok k) e =
        let n = number_got_lem l i j least most k (ap (number_got i) e) in
        value ((pos k, n.field), ((k, n), tt))
    go (Err NumberFault.Malformed) e = refusal (inl (number_malformed least most (columns l i j) e, refl, refl))
    go (Err NumberFault.Outside) e =
        refusal (inr (number_outside least most (columns l i j) e, inl (none_such (Number l i j least most) (ap (number_got i) e) (λ k n. number_is n), refl, refl)))

-- ---- numbers of a range with negatives

in_signed_range : (below above : ℕ) (z : ℤ) → ¬ (signed_ranged below above (is z) ≡ Err NumberFault.Malformed)
unfolding signed_ranged
in_signed_range below above z h = go (is_between below above z) h
  where
    go : (t : Bool) → cond t (Ok z) (Err NumberFault.Outside) ≡ Err NumberFault.Malformed → ⊥
    go true h = let z : ◌≡◌ {A = ℕ} 0 1 = cc in omega arith
    go false h = let z : ◌≡◌ {A = ℕ} 0 1 = cc in omega arith

signed_malformed : (below above : ℕ) (cs : Bytes) → signed_in below above cs ≡ Err NumberFault.Malformed → ¬ Some (Integer true cs)
unfolding signed_in
signed_malformed below above cs h n = in_signed_range below above n.0 (rw (integer_read true n.1) at h)

signed_outside : (below above : ℕ) (cs : Bytes) → signed_in below above cs ≡ Err NumberFault.Outside → Some (Integer true cs)
unfolding signed_in signed_ranged
signed_outside below above cs h = go (integer_in true cs) refl h
  where
    go : (r : IntegerRead) → integer_in true cs ≡ r → signed_ranged below above r ≡ Err NumberFault.Outside → Some (Integer true cs)
    go (is z) e h = (z, read_integer true cs z e)
    go malformed e h = absurd (let z : ◌≡◌ {A = ℕ} 0 1 = cc in omega arith)

pub signed_tells : (l : Line) (i j below above : ℕ) → Tells (signed l i j below above) (signed_at l i j below above)
unfolding signed_at
signed_tells l i j below above = go (signed_in below above (columns l i j)) refl
  where
    go : (r : Result ℤ NumberFault) → signed_in below above (columns l i j) ≡ r → Tells (signed l i j below above) (signed_got i r)
    go (Ok z) e =
        let n = signed_got_lem l i j below above z (ap (signed_got i) e) in
        value ((z, n.field), ((z, n), tt))
    go (Err NumberFault.Malformed) e = refusal (inl (signed_malformed below above (columns l i j) e, refl, refl))
    go (Err NumberFault.Outside) e =
        refusal (inr (signed_outside below above (columns l i j) e, inl (none_such (Signed l i j below above) (ap (signed_got i) e) (λ z n. signed_is n), refl, refl)))

-- ---- numbers of a list

-- the list's demand may be said in other words
module _ (l : Line) (i j most : ℕ) (list : List ℕ) (small : all_pass (λ m. leb m most) list ≡ true) {G : Type 0}
    (to : Some (Listed l i j list) → G) (back : G → Some (Listed l i j list)) where
  none_listed : {e c : ℕ} → listed_at l i j most list ≡ bad e c → ¬ G
  none_listed h g = none_such (Listed l i j list) h (λ k. listed_is l i j most list k small) (back g)

  pub listed_tells : Tells (Some (Integer false (columns l i j)) else 7 at_column i ∷ G else 8 at_column i ∷ []) (listed_at l i j most list)
  unfolding listed_at number_at then need
  listed_tells = go (number_in 0 most (columns l i j)) refl
    where
      demands : List Demand
      demands = Some (Integer false (columns l i j)) else 7 at_column i ∷ G else 8 at_column i ∷ []

      go : (r : Result ℕ NumberFault) → number_in 0 most (columns l i j) ≡ r → Tells demands (then (number_got i r) (λ k. need (elem k list) 8 i (got k)))
      go (Ok k) e = found (elem k list) refl
        where
          field : Some (Integer false (columns l i j))
          field = let n = number_got_lem l i j 0 most k (ap (number_got i) e) in (pos k, n.field)

          found : (t : Bool) → elem k list ≡ t → Tells demands (need t 8 i (got k))
          found true h = value (field, (to (k, listed_got l i j most list k (rw (e, h))), tt))
          found false h = refusal (inr (field, inl (none_listed {e = 8} {c = i} (rw (e, h)), refl, refl)))
      go (Err NumberFault.Malformed) e = refusal (inl (number_malformed 0 most (columns l i j) e, refl, refl))
      go (Err NumberFault.Outside) e = refusal (inr (number_outside 0 most (columns l i j) e, inl (none_listed {e = 8} {c = i} (rw e), refl, refl)))

module _ (l : Line) (i j below above : ℕ) (list : List ℤ) (small : all_pass (is_between below above) list ≡ true) where
  none_signed : {e c : ℕ} → signed_listed_at l i j below above list ≡ bad e c → ¬ Some (SignedListed l i j list)
  none_signed h = none_such (SignedListed l i j list) h (λ z. signed_listed_is l i j below above list z small)

  pub signed_listed_tells : Tells (signed_listed l i j list) (signed_listed_at l i j below above list)
  unfolding signed_listed_at signed_at then need
  signed_listed_tells = go (signed_in below above (columns l i j)) refl
    where
      go : (r : Result ℤ NumberFault) → signed_in below above (columns l i j) ≡ r →
          Tells (signed_listed l i j list) (then (signed_got i r) (λ z. need (elem_signed z list) 8 i (got z)))
      go (Ok z) e = found (elem_signed z list) refl
        where
          field : Some (Integer true (columns l i j))
          field = let n = signed_got_lem l i j below above z (ap (signed_got i) e) in (z, n.field)

          found : (t : Bool) → elem_signed z list ≡ t → Tells (signed_listed l i j list) (need t 8 i (got z))
          found true h = value (field, ((z, signed_listed_got l i j below above list z (rw (e, h))), tt))
          found false h = refusal (inr (field, inl (none_signed {e = 8} {c = i} (rw (e, h)), refl, refl)))
      go (Err NumberFault.Malformed) e = refusal (inl (signed_malformed below above (columns l i j) e, refl, refl))
      go (Err NumberFault.Outside) e = refusal (inr (signed_outside below above (columns l i j) e, inl (none_signed {e = 8} {c = i} (rw e), refl, refl)))

-- ---- coordinates and symbols

pub coordinate_tells : (l : Line) (i j : ℕ) → length (columns l i j) ≡ 10 → Tells (coordinate l i j) (coordinate_at l i j)
unfolding coordinate_at
coordinate_tells l i j ten = go (coordinate_in (columns l i j)) refl
  where
    go : (r : Option ℤ) → coordinate_in (columns l i j) ≡ r → Tells (coordinate l i j) (coordinate_got i r)
    go (Found z) e = value ((z, coordinate_got_lem l i j ten z (ap (coordinate_got i) e)), tt)
    go None e =
        refusal (inl (none_such (Coordinate (columns l i j)) (ap (coordinate_got i) e) (λ z. coordinate_is l i j ten z), refl, refl))

pub symbol_tells : (l : Line) (i j : ℕ) → Tells (symbol l i j) (symbol_at l i j)
unfolding symbol_at
symbol_tells l i j = go (symbol_in (columns l i j)) refl
  where
    go : (r : Option ℕ) → symbol_in (columns l i j) ≡ r → Tells (symbol l i j) (symbol_got i r)
    go (Found k) e = value ((k, symbol_got_lem l i j k (ap (symbol_got i) e)), tt)
    go None e = refusal (inl (none_such (Symbol (columns l i j)) (ap (symbol_got i) e) (λ k. symbol_is l i j k), refl, refl))

-- ---- spaces and texts

module _ {A : Type 0} {ds : List Demand} {x : Got A} where
  pub space_tells : (l : Line) (i : ℕ) → Tells ds x → Tells (space l i and_then ds) (space_at l i x)
  unfolding space_at
  space_tells l i t = need_tells (eqb (column l i) (byte " ")) (eqb-true (column l i) (byte " ")) (eqb-false (column l i) (byte " ")) (λ h. t)

  pub has_tells : (l : Line) (i j : ℕ) (text : String) {e c : ℕ} → Tells ds x → Tells (Has l i j text else e at_column c ∷ ds) (need (has l i j text) e c x)
  has_tells l i j text t = need_tells (has l i j text) (has_got l i j text) (λ f h. never_both (has l i j text) (has_is l i j text h) f) (λ h. t)

-- ---- every column from i on

module _ (p : ℕ → Bool) (P : ℕ → Type 0) (good : (b : ℕ) → p b ≡ false → P b) (ill : (b : ℕ) → P b → p b ≡ false) (blank : P (byte " ")) (e : ℕ) (l : Line) where
  past_end : (i w : ℕ) → ((k : ℕ) → column l (i + k) ≡ byte " ") → All (each_for P e l i w)
  past_end i zero h = tt
  past_end i (suc w) h =
      let here : column l i ≡ byte " " = rw add-zero at (h 0) in
      (subst P (sym here) blank, past_end (suc i) w (λ k. let q = h (suc k) in rw (add-suc i k, ← suc-add i k) at q))

  -- the first byte
  one_tells : {A : Type 0} {es : List Demand} (x : Got A) (b i : ℕ) (u : Bool) (f : Option ℕ) → p b ≡ u → column l i ≡ b →
      (u ≡ false → Tells es (none_found e f x)) → Tells (P (column l i) else e at_column i ∷ es) (none_found e (cond u (Found i) f) x)
  one_tells x b i true f h here t = refusal (inl ((λ q. never_both (p b) h (ill b (subst P here q))), refl, refl))
  one_tells x b i false f h here t = past (P (column l i) else e at_column i ∷ []) (subst P (sym here) (good b h), tt) (t refl)

  pub first_tells : {A : Type 0} {ds : List Demand} {x : Got A} (xs : Bytes) (i w : ℕ) → length xs ≤ w → ((k : ℕ) → column l (i + k) ≡ get_or xs k (byte " ")) →
      (first_from p i xs ≡ None → Tells ds x) → Tells (each_for P e l i w ++ ds) (none_found e (first_from p i xs) x)
  unfolding first_from
  first_tells [] i w s h t = past (each_for P e l i w) (past_end i w h) (t refl)
  first_tells (b ∷ xs) i zero s h t = absurd (omega arith)
  first_tells {x = x} (b ∷ xs) i (suc w) s h t =
      one_tells x b i (p b) (first_from p (suc i) xs) refl (rw add-zero at (h 0)) λ f.
      first_tells xs (suc i) w (omega arith) (λ k. let q = h (suc k) in rw (add-suc i k, ← suc-add i k) at q) (λ q. t (rw f q))

module _ {A : Type 0} {ds : List Demand} {x : Got A} (l : Line) where
  pub spaces_tells : (i : ℕ) → 1 ≤ i → length l ≤ 80 → Tells ds x → Tells (spaces_from_lem l i and_then ds) (F.spaces_from l i x)
  unfolding F.spaces_from ink_column
  spaces_tells i one short t =
      first_tells is_ink Space no_ink space_no_ink refl 15 l (drop (i - 1) l) i (81 - i) (omega (arith, length-drop (i - 1) l))
      (λ k. let e : i + k - 1 ≡ i - 1 + k = omega arith in rw e (sym (get_or-drop (i - 1) l k (byte " ")))) (λ h. t)

module _ {A : Type 0} (l : Line) (a : A) where
  -- the last demands of a line
  pub spaces_last : (i : ℕ) → 1 ≤ i → length l ≤ 80 → Tells (spaces_from_lem l i) (F.spaces_from l i (got a))
  spaces_last i one short = no_more (spaces_from_lem l i) (spaces_tells l i one short (value tt))
