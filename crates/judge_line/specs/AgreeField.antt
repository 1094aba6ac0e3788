-- Each field of a line is judged as its rule says: `..-got` from what is found to the rule, `..-is` back.
use Rattle.std.specs.Prelude.{Result, Ok, Err, Option, Some, None, ℕ, suc, ◌≡◌, refl, List, [], ◌∷◌, Bool, true, false, cond, eqb, length, ℤ, pos, negsuc}
use Prim.Native.String.{String}
use Rattle.std.proofs.Common.{arith, ◌∙◌}
use Rattle.std.proofs.Math.Path.{ap, subst}
use Rattle.std.proofs.Math.Dec.{leb}
use borrow.Author.Tests.{eqb-true, eq-eqb, leb-true, le-leb}
use Rattle.text.specs.Text.{Line, bytes, byte}
use Rattle.text.specs.Columns.{column, columns, Space, SpacesFrom, Has, Within}
use Rattle.text.specs.Find.{bad_column, ink_column}
use Rattle.text.specs.Agree.{bad_none, ink_none, same_bytes_lem}
use Rattle.field_numbers.specs.Number.{Number, Signed, OneOf, Listed, SignedListed}
use Rattle.field_numbers.specs.Read.{number_in, signed_in, is_between}
use Rattle.field_numbers.specs.Agree.{number_agrees, signed_agrees, is_between_lem}
use Rattle.field_coordinates.specs.Coordinate.{Coordinate}
use Rattle.field_coordinates.specs.Read.{coordinate_in}
use Rattle.field_coordinates.proofs.Agree.{coordinate_agrees}
use Rattle.field_symbols.specs.Symbol.{Symbol}
use Rattle.field_symbols.specs.Read.{symbol_in}
use Rattle.field_symbols.specs.Agree.{symbol_agrees}
use Rattle.judge_line.specs.Got.{Got, got, then, need}
use Rattle.judge_line.specs.GotLaws.{got_inj, bad_got, then_got, then_is, need_got, need_is, cond_by}
use Rattle.judge_line.specs.Field.{number_got, number_at, signed_got, signed_at, elem, listed_at, same_integer, elem_signed, signed_listed_at, coordinate_got, coordinate_at, symbol_got, symbol_at, space_at, none_found, spaces_from, has, within}
use Rattle.field_numbers.specs.declared.NumberFault.{NumberFault}

-- a field is judged, and then the rest: with its value, the rule for it, and what the rest finds
pub on : {A B X : Type 0} {P : A → Type 0} (x : Got A) (f : A → Got B) (v : B) →
    then x f ≡ got v → ((a : A) → x ≡ got a → P a) → ((a : A) → P a → f a ≡ got v → X) → X
on x f v h law rest = let t = then_got x f v h in rest t.0 (law t.0 t.1) t.2

-- a test is passed, and then the rest
pub after : {A X : Type 0} (b : Bool) (e c : ℕ) (x : Got A) (v : A) → need b e c x ≡ got v → (b ≡ true → x ≡ got v → X) → X
after b e c x v h rest = let t = need_got b e c x v h in rest t.0 t.1

-- ---- numbers

number_read : (i k : ℕ) (r : Result ℕ NumberFault) → number_got i r ≡ got k → r ≡ Ok k
number_read i k (Ok j) h = ap Ok (got_inj h)
number_read i k (Err NumberFault.Malformed) h = bad_got h
number_read i k (Err NumberFault.Outside) h = bad_got h

pub number_got_lem : (l : Line) (i j least most k : ℕ) → number_at l i j least most ≡ got k → Number l i j least most k
unfolding number_at
number_got_lem l i j least most k h = (number_agrees l i j least most k).0 (number_read i k (number_in least most (columns l i j)) h)

pub number_is : {l : Line} {i j least most k : ℕ} → Number l i j least most k → number_at l i j least most ≡ got k
unfolding number_at
number_is {l} {i} {j} {least} {most} {k} n = ap (number_got i) ((number_agrees l i j least most k).1 n)

signed_read : (i : ℕ) (z : ℤ) (r : Result ℤ NumberFault) → signed_got i r ≡ got z → r ≡ Ok z
signed_read i z (Ok y) h = ap Ok (got_inj h)
signed_read i z (Err NumberFault.Malformed) h = bad_got h
signed_read i z (Err NumberFault.Outside) h = bad_got h

pub signed_got_lem : (l : Line) (i j below above : ℕ) (z : ℤ) → signed_at l i j below above ≡ got z → Signed l i j below above z
unfolding signed_at
signed_got_lem l i j below above z h = (signed_agrees l i j below above z).0 (signed_read i z (signed_in below above (columns l i j)) h)

pub signed_is : {l : Line} {i j below above : ℕ} {z : ℤ} → Signed l i j below above z → signed_at l i j below above ≡ got z
unfolding signed_at
signed_is {l} {i} {j} {below} {above} {z} n = ap (signed_got i) ((signed_agrees l i j below above z).1 n)

-- ---- numbers of a list

pub elem_true : (k : ℕ) (xs : List ℕ) → elem k xs ≡ true → OneOf k xs
unfolding elem
elem_true k [] h = absurd (let z : ◌≡◌ {A = ℕ} 0 1 = cc in omega arith)
elem_true k (x ∷ xs) h =
    cond_by _ _ _ _ h (λ e h. subst (λ (y : ℕ). OneOf k (y ∷ xs)) (eqb-true k x e) OneOf.this) λ e h.
    OneOf.later (elem_true k xs h)

either_true : (t : Bool) → cond t true true ≡ true
either_true true = refl
either_true false = refl

pub elem_is : {k : ℕ} {xs : List ℕ} → OneOf k xs → elem k xs ≡ true
unfolding elem
elem_is {k} OneOf.this = rw (eq-eqb k k refl)
elem_is {k} (OneOf.later {y = y} o) = rw (elem_is o) (either_true (eqb k y))

pub same_integer_lem : (y z : ℤ) → same_integer y z ≡ true → y ≡ z
same_integer_lem (pos j) (pos k) h = ap pos (eqb-true j k h)
same_integer_lem (pos j) (negsuc k) h = absurd (let z : ◌≡◌ {A = ℕ} 0 1 = cc in omega arith)
same_integer_lem (negsuc j) (pos k) h = absurd (let z : ◌≡◌ {A = ℕ} 0 1 = cc in omega arith)
same_integer_lem (negsuc j) (negsuc k) h = ap negsuc (eqb-true j k h)

pub integer_same : (z : ℤ) → same_integer z z ≡ true
integer_same (pos k) = eq-eqb k k refl
integer_same (negsuc k) = eq-eqb k k refl

pub elem_signed_true : (z : ℤ) (xs : List ℤ) → elem_signed z xs ≡ true → OneOf z xs
unfolding elem_signed
elem_signed_true z [] h = absurd (let z : ◌≡◌ {A = ℕ} 0 1 = cc in omega arith)
elem_signed_true z (x ∷ xs) h =
    cond_by _ _ _ _ h (λ e h. subst (λ (y : ℤ). OneOf z (y ∷ xs)) (same_integer_lem z x e) OneOf.this) λ e h.
    OneOf.later (elem_signed_true z xs h)

pub elem_signed_is : {z : ℤ} {xs : List ℤ} → OneOf z xs → elem_signed z xs ≡ true
unfolding elem_signed
elem_signed_is {z} OneOf.this = rw (integer_same z)
elem_signed_is {z} (OneOf.later {y = y} o) = rw (elem_signed_is o) (either_true (same_integer z y))

-- a test that each of a list passes
unfoldable pub all_pass : {A : Type 0} → (A → Bool) → List A → Bool
all_pass p [] = true
all_pass p (x ∷ xs) = cond (p x) (all_pass p xs) false

pass_both : (t u : Bool) → cond t u false ≡ true → (t ≡ true) × (u ≡ true)
pass_both true u h = (refl, h)
pass_both false u h = absurd (let z : ◌≡◌ {A = ℕ} 0 1 = cc in omega arith)

pass_one : {A : Type 0} (p : A → Bool) {x : A} {xs : List A} → OneOf x xs → all_pass p xs ≡ true → p x ≡ true
unfolding all_pass
pass_one p {x} (OneOf.this {xs = xs}) h = (pass_both (p x) (all_pass p xs) h).0
pass_one p {x} (OneOf.later {y = y} {xs = xs} o) h = pass_one p o (pass_both (p y) (all_pass p xs) h).1

module _ (l : Line) (i j most : ℕ) (list : List ℕ) (k : ℕ) where
  pub listed_got : listed_at l i j most list ≡ got k → Listed l i j list k
  unfolding listed_at
  listed_got h =
      on _ _ k h (number_got_lem l i j 0 most) λ a n h.
      after _ _ _ _ k h λ among h.
      subst (Listed l i j list) (got_inj h) (record { field = n.field; listed = elem_true a list among })

  -- where none of the list is above `most`
  pub listed_is : all_pass (λ m. leb m most) list ≡ true → Listed l i j list k → listed_at l i j most list ≡ got k
  unfolding listed_at
  listed_is small n =
      let high = leb-true k most (pass_one (λ (m : ℕ). leb m most) n.listed small) in
      then_is _ _ k (number_is {l = l} {i = i} {j = j} {least = 0} {most = most} (record { field = n.field; low = omega arith; high = high })) ∙
      need_is (elem k list) 8 i (got k) (elem_is n.listed)

module _ (l : Line) (i j below above : ℕ) (list : List ℤ) (z : ℤ) where
  pub signed_listed_got : signed_listed_at l i j below above list ≡ got z → SignedListed l i j list z
  unfolding signed_listed_at
  signed_listed_got h =
      on _ _ z h (signed_got_lem l i j below above) λ a n h.
      after _ _ _ _ z h λ among h.
      subst (SignedListed l i j list) (got_inj h) (record { field = n.field; listed = elem_signed_true a list among })

  -- where all of the list are between the two
  pub signed_listed_is : all_pass (is_between below above) list ≡ true → SignedListed l i j list z → signed_listed_at l i j below above list ≡ got z
  unfolding signed_listed_at
  signed_listed_is small n =
      let range = is_between_lem below above z (pass_one (is_between below above) n.listed small) in
      then_is _ _ z (signed_is {l = l} {i = i} {j = j} (record { field = n.field; range = range })) ∙
      need_is (elem_signed z list) 8 i (got z) (elem_signed_is n.listed)

-- ---- coordinates and symbols

coordinate_found : (i : ℕ) (z : ℤ) (r : Option ℤ) → coordinate_got i r ≡ got z → r ≡ Some z
coordinate_found i z (Some y) h = ap Some (got_inj h)
coordinate_found i z None h = bad_got h

module _ (l : Line) (i j : ℕ) (ten : length (columns l i j) ≡ 10) (z : ℤ) where
  pub coordinate_got_lem : coordinate_at l i j ≡ got z → Coordinate (columns l i j) z
  unfolding coordinate_at
  coordinate_got_lem h = (coordinate_agrees (columns l i j) ten z).0 (coordinate_found i z (coordinate_in (columns l i j)) h)

  pub coordinate_is : Coordinate (columns l i j) z → coordinate_at l i j ≡ got z
  unfolding coordinate_at
  coordinate_is n = ap (coordinate_got i) ((coordinate_agrees (columns l i j) ten z).1 n)

symbol_found : (i k : ℕ) (r : Option ℕ) → symbol_got i r ≡ got k → r ≡ Some k
symbol_found i k (Some j) h = ap Some (got_inj h)
symbol_found i k None h = bad_got h

module _ (l : Line) (i j k : ℕ) where
  pub symbol_got_lem : symbol_at l i j ≡ got k → Symbol (columns l i j) k
  unfolding symbol_at
  symbol_got_lem h = (symbol_agrees (columns l i j) k).0 (symbol_found i k (symbol_in (columns l i j)) h)

  pub symbol_is : Symbol (columns l i j) k → symbol_at l i j ≡ got k
  unfolding symbol_at
  symbol_is n = ap (symbol_got i) ((symbol_agrees (columns l i j) k).1 n)

-- ---- spaces and texts

module _ {A : Type 0} (l : Line) (i : ℕ) (x : Got A) where
  pub space_got : {X : Type 0} (v : A) → space_at l i x ≡ got v → (Space (column l i) → x ≡ got v → X) → X
  unfolding space_at
  space_got v h rest = after _ _ _ _ v h λ e h. rest (eqb-true (column l i) (byte " ") e) h

  pub space_is : Space (column l i) → space_at l i x ≡ x
  unfolding space_at
  space_is s = need_is (eqb (column l i) (byte " ")) 15 i x (eq-eqb (column l i) (byte " ") s)

none_got : {A : Type 0} (e : ℕ) (f : Option ℕ) (x : Got A) (v : A) → none_found e f x ≡ got v → (f ≡ None) × (x ≡ got v)
none_got e (Some i) x v h = bad_got h
none_got e None x v h = (refl, h)

none_is : {A : Type 0} (e : ℕ) (f : Option ℕ) (x : Got A) → f ≡ None → none_found e f x ≡ x
none_is e f x h = rw h

module _ {A : Type 0} (l : Line) (i : ℕ) (x : Got A) where
  pub spaces_got : {X : Type 0} (v : A) → spaces_from l i x ≡ got v → (SpacesFrom l i → x ≡ got v → X) → X
  unfolding spaces_from
  spaces_got v h rest = let n = none_got 15 (ink_column l i) x v h in rest ((ink_none l i).0 n.0) n.1

  pub spaces_is : SpacesFrom l i → spaces_from l i x ≡ x
  unfolding spaces_from
  spaces_is s = none_is 15 (ink_column l i) x ((ink_none l i).1 s)

pub has_got : (l : Line) (i j : ℕ) (text : String) → has l i j text ≡ true → Has l i j text
has_got l i j text h = (same_bytes_lem (columns l i j) (bytes text)).0 h

pub has_is : (l : Line) (i j : ℕ) (text : String) → Has l i j text → has l i j text ≡ true
has_is l i j text h = (same_bytes_lem (columns l i j) (bytes text)).1 h

-- ---- the whole line

pub within_got : {A : Type 0} (k : ℕ) (l : Line) (x : Got A) (v : A) → within k l x ≡ got v → Within k l × (x ≡ got v)
unfolding within
within_got k l x v h =
    let a = need_got (leb (length l) k) 3 (suc k) _ v h in
    let b = none_got 4 (bad_column l) x v a.1 in
    (record { short = leb-true (length l) k a.0; allowed = (bad_none l).0 b.0 }, b.1)

pub within_is : {A : Type 0} (k : ℕ) (l : Line) (x : Got A) → Within k l → within k l x ≡ x
unfolding within
within_is k l x w =
    need_is (leb (length l) k) 3 (suc k) _ (le-leb (length l) k w.short) ∙
    none_is 4 (bad_column l) x ((bad_none l).1 w.allowed)
