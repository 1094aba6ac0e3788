-- How entries are entered one after the other, as the code goes; then the rest of the line.
use Rattle.std.specs.Prelude.{IsErrAnd, Result, Ok, Err, Option, Some, None, ℕ, suc, ◌+◌, ◌*◌, ◌-◌, ◌≤◌, ◌<◌, ◌≡◌, refl, Bool, true, false, cond, not, T, eqb, length, get_or, set, ℤ, pos, negsuc, nat_abs, ◌+ℤ◌}
use native.Mathlib.Omega.{arith}
use Rattle.std.proofs.Math.Path.{sym, ap}
use Rattle.std.proofs.Common.{◌∙◌, subst, SFits, Fits, to_z, of_z, eq-eqb, ne_eqb, le-ltb}
use mathlib.Core.List.{List, ◌∷◌}
use Rattle.std.specs.Int.Signed.{non_neg}
use Rattle.std.specs.Int.{w32, w64}
use Rattle.text.specs.Text.{Line}
use Rattle.text.specs.Columns.{column}
use Rattle.text.specs.Find.{ink_column}
use Rattle.field_numbers.specs.Number.{Between}
use Rattle.rules.specs.Forms as R
use Rattle.rules.specs.Record.{limit}
use Rattle.judge_line.specs.Got.{Got, got, bad, then, need}
use Rattle.judge_line.specs.GotLaws.{got_inj, bad_got, then_got, then_then, need_then}
use Rattle.judge_line.specs.Field.{number_at, signed_at, space_at, none_found, spaces_from}
use Rattle.judge_line.specs.AgreeField.{number_got_lem, space_got, on, after}
use Rattle.judge_line.specs.Judge.{PropertyOrEnd, property, last, entry_number_at, entries_of, list_of, property_of}
use Rattle.line_fields.specs.Answer.{field_got, signed_field_got}
use Rattle.line_fields.specs.Steps.{hop, field_most}
use Rattle.line_fields.specs.Steps.{signed_range}
use Rattle.judge_line.specs.declared.Refusal.{Refusal}
use Rattle.line_property.specs.Listed.{places, base, slot, noted, enter, seen_of}
use Rattle.line_property.specs.Answer.{kind_is, plain_at, noted_at, place_at, entered_at, entered_from, entered_got, property_read, rest_read}
use Rattle.line_property.specs.Kept.{Kept, KeptBy}
use Rattle.line_property.specs.Seen.{then_same, entries_same, slot_small, listed_elem, seen_set, entry_some}
use Rattle.line_property.specs.declared.Kind.{Kind}
use Rattle.line_property.specs.declared.PropertyLine.{PropertyLine}

-- ---- the number of an entry

plain_noted : (x : Got ℕ) → then (then x (λ k. got (pos k))) (λ z. got (noted z)) ≡ then x (λ k. got (k + 16))
unfolding then
plain_noted (got k) = refl
plain_noted (bad e column) = refl

pub plain_fits : (l : Line) (i j least most : ℕ) (x : Result ℕ Refusal) (k : ℕ) → most ≤ 999 → field_got x ≡ number_at l i j least most → x ≡ Ok k → Fits w32 (k + 16)
plain_fits l i j least most x k small f h = record { fits = omega (arith, field_most l i j least most x k f h) }

-- the kind as the code has it
module _ (l : Line) (i j : ℕ) (kind : Kind) (x : Got ℕ) where
  pub charge_noted : kind ≡ Kind.Charge → x ≡ noted_at l i j R.CHG → x ≡ noted_at l i j (kind_is kind)
  charge_noted h e = rw h e

  pub radical_noted : kind ≡ Kind.Radical → x ≡ plain_at l i j 0 3 → x ≡ noted_at l i j (kind_is kind)
  unfolding noted_at entry_number_at plain_at
  radical_noted h e = rw h (e ∙ sym (plain_noted (number_at l i j 0 3)))

  pub isotope_noted : kind ≡ Kind.Isotope → x ≡ plain_at l i j 1 999 → x ≡ noted_at l i j (kind_is kind)
  unfolding noted_at entry_number_at plain_at
  isotope_noted h e = rw h (e ∙ sym (plain_noted (number_at l i j 1 999)))

pub ruleset numbers_noted = (charge_noted, radical_noted, isotope_noted)

-- a charge and 16 more
charge_is : (z : ℤ) → Between 15 15 z → z +ℤ pos 16 ≡ pos (noted z)
charge_is (pos k) h = refl
charge_is (negsuc k) h = rw (le-ltb 16 (suc k) (omega arith)) (ap pos (omega arith))

charge_small : (z : ℤ) → Between 15 15 z → noted z ≤ 31
charge_small (pos k) h = omega arith
charge_small (negsuc k) h = omega arith

-- the same as an i32 gives it
module _ (l : Line) (i j : ℕ) (x : Result ℤ Refusal) (z : ℤ) (e : signed_field_got x ≡ signed_at l i j 15 15) (h : x ≡ Ok z) (f : SFits w32 z) where
  range : Between 15 15 z
  range = signed_range l i j 15 15 x z e h

  pub charge_fits : SFits w32 (to_z w32 (of_z w32 z) +ℤ pos 16)
  charge_fits = rw (hop z f, charge_is z range) (record { sfits = omega (arith, charge_small z range) })

  charge_number : to_z w32 (of_z w32 (to_z w32 (of_z w32 z) +ℤ pos 16)) ≡ pos (noted z)
  charge_number = hop (to_z w32 (of_z w32 z) +ℤ pos 16) charge_fits ∙ ap (λ (y : ℤ). y +ℤ pos 16) (hop z f) ∙ charge_is z range

  pub charge_cast :
      T (non_neg (to_z w32 (of_z w32 (to_z w32 (of_z w32 z) +ℤ pos 16)))) × Fits w32 (nat_abs (to_z w32 (of_z w32 (to_z w32 (of_z w32 z) +ℤ pos 16))))
  charge_cast = rw charge_number (tt, record { fits = omega (arith, charge_small z range) })

  pub charge_next : got (nat_abs (to_z w32 (of_z w32 (to_z w32 (of_z w32 z) +ℤ pos 16)))) ≡ noted_at l i j R.CHG
  unfolding noted_at entry_number_at then
  charge_next = rw (charge_number, ← e, h)

-- ---- one entry after the other

then_value : {A B : Type 0} (a : A) (f : A → Got B) → then (got a) f ≡ f a
unfolding then
then_value a f = refl

not_not : (b : Bool) → not (not b) ≡ b
not_not true = refl
not_not false = refl

-- in the loop over entries from column 10 on: the table was t₀ and is t; so many entries are left, from column i on
pub record Entering (n : ℕ) (kind : R.Kind) (l : Line) (t₀ : List ℕ) (count : ℕ) (t : List ℕ) (i left : ℕ) : Type 0 where
  pub first : 10 ≤ i
  pub columns : i + 8 * left ≡ 10 + 8 * count
  pub size : length t ≡ 3 * places
  pub same : entered_from n kind l 10 count t₀ ≡ entered_from n kind l i left t

pub entering_start : (n : ℕ) (kind : R.Kind) (l : Line) (t₀ : List ℕ) (count : ℕ) → length t₀ ≡ 3 * places → Entering n kind l t₀ count t₀ 10 count
entering_start n kind l t₀ count size = record { first = omega arith; columns = refl; size = size; same = refl }

-- the table is as long as it was
pub entering_size : (n : ℕ) (kind : R.Kind) (l : Line) (t₀ : List ℕ) (count : ℕ) (t : List ℕ) (i left : ℕ) → Entering n kind l t₀ count t i left →
    (t' : List ℕ) → length t₀ ≡ 3 * places → length t' ≡ length t → length t' ≡ length t₀
entering_size n kind l t₀ count t i left at t' size stays = stays ∙ at.size ∙ sym size

module _ (n : ℕ) (kind : R.Kind) (l : Line) (most : n ≤ limit) where
  pub entered_next : (i k : ℕ) (t : List ℕ) → length t ≡ 3 * places →
      entered_from n kind l i (suc k) t ≡ then (entered_at n kind l i t) (λ t'. entered_from n kind l (i + 8) k t')
  unfolding entered_from entered_at place_at noted_at entries_of enter space_at
  entered_next i k t size =
      simp (then_then, need_then, then_value)
      (ap (need (eqb (column l i) 32) 15 i) (then_same (number_at l (i + 1) (i + 3) 1 n) _ _ λ atom e.
      let is = number_got_lem l (i + 1) (i + 3) 1 n atom e in
      rw (listed_elem kind t n atom is.low is.high, not_not)
      (ap (λ (x : Got (List ℕ)). need (eqb (get_or t (slot kind atom) 0) 0) 14 (i + 1) (need (eqb (column l (i + 4)) 32) 15 (i + 4) x))
      (then_same (entry_number_at l (i + 5) (i + 7) kind) _ _ λ z f.
      rw (entries_same n kind l (i + 8) k (atom ∷ seen_of n t kind) (seen_of n (set t (slot kind atom) (noted z)) kind)
      (seen_set n kind t atom (noted z) most size is.high (entry_some l (i + 5) (i + 7) kind z f)))))))

  module _ (t₀ : List ℕ) (count : ℕ) (t : List ℕ) (i left : ℕ) (at : Entering n kind l t₀ count t i left) where
    one : 0 < left → entered_from n kind l 10 count t₀ ≡ then (entered_at n kind l i t) (λ t'. entered_from n kind l (i + 8) (left - 1) t')
    one h = at.same ∙ ap (λ (k : ℕ). entered_from n kind l i k t) (omega arith) ∙ entered_next i (left - 1) t at.size

    pub entering_next : (x : Result (Unit {0}) Refusal) (t' : List ℕ) → 0 < left → length t' ≡ length t →
        entered_got x t' ≡ entered_at n kind l i t → x ≡ Ok tt → Entering n kind l t₀ count t' (i + 8) (left - 1)
    unfolding then
    entering_next x t' h stays e good =
        let first = at.first in
        let columns = at.columns in
        record { first = omega arith; columns = omega arith; size = stays ∙ at.size; same = one h ∙ rw (← e, good) }

    pub entering_stop : (x : Result (Unit {0}) Refusal) (t' : List ℕ) (r : Refusal) → 0 < left →
        entered_got x t' ≡ entered_at n kind l i t → x ≡ Err r → bad r.no r.column ≡ entered_from n kind l 10 count t₀
    unfolding then
    entering_stop x t' r h e stop = sym (one h ∙ rw (← e, stop))

    pub entering_end : left ≤ 0 → got t ≡ entered_from n kind l 10 count t₀
    unfolding entered_from entries_of enter then
    entering_end h = let none : left ≡ 0 = omega arith in sym (at.same ∙ ap (λ (k : ℕ). entered_from n kind l i k t) none)

-- an entry's refusal handed on
pub entry_refused : (x : Result (Unit {0}) Refusal) (r : Refusal) (t : List ℕ) (g : Got (List ℕ)) → IsErrAnd x (λ e. e ≡ r) → bad r.no r.column ≡ g → entered_got x t ≡ g
entry_refused (Ok u) r t g is e = absurd is
entry_refused (Err f) r t g is e = rw is e

pub ruleset entering = (entering_start, entering_size, entering_next, entering_stop, entering_end)

-- ---- the place of an entry

module _ (kind : R.Kind) (t : List ℕ) (b atom : ℕ) (e : b ≡ base kind) where
  pub place_free : get_or t (b + atom) 0 ≡ 0 → eqb (get_or t (slot kind atom) 0) 0 ≡ true
  place_free h = eq-eqb (get_or t (slot kind atom) 0) 0 (rw (← e) h)

  pub place_taken : (get_or t (b + atom) 0 ≡ 0 → ⊥) → eqb (get_or t (slot kind atom) 0) 0 ≡ false
  place_taken h = ne_eqb (get_or t (slot kind atom) 0) 0 (λ q. h (rw e q))

  pub place_is : got (b + atom) ≡ got (slot kind atom)
  place_is = rw e

pub ruleset free_places = (place_free, place_taken, place_is)

module _ (n : ℕ) (kind : R.Kind) (b : ℕ) (l : Line) (i j : ℕ) (x : Result ℕ Refusal) (k : ℕ) (most : n ≤ limit) (e : b ≡ base kind)
    (f : field_got x ≡ number_at l i j 1 n) (h : x ≡ Ok k) where
  pub place_small : b + k < 3 * places
  place_small =
      let is = number_got_lem l i j 1 n k (sym f ∙ ap field_got h) in
      let high = is.high in
      rw e (slot_small kind k (omega arith))

  pub place_add : Fits w64 (b + k)
  place_add = record { fits = omega (arith, place_small) }

  pub place_mul : Fits w64 ((b + k) * 4)
  place_mul = record { fits = omega (arith, place_small) }

  pub place_cast : Fits w32 (b + k)
  place_cast = record { fits = omega (arith, place_small) }

pub ruleset small_places = (place_small, place_add, place_mul, place_cast)

pub place_below : (n : ℕ) (kind : R.Kind) (l : Line) (i : ℕ) (t : List ℕ) (x : Result ℕ Refusal) (k : ℕ) → n ≤ limit →
    field_got x ≡ place_at n kind l i t → x ≡ Ok k → k < 3 * places
unfolding place_at
place_below n kind l i t x k most f h =
    space_got l _ _ k (sym f ∙ ap field_got h) λ space q.
    on _ _ k q (number_got_lem l (i + 1) (i + 3) 1 n) λ atom is q.
    after _ _ _ _ k q λ free q.
    let high = is.high in
    rw (sym (got_inj q)) (slot_small kind atom (omega arith))

-- ---- the list, and the rest of a line

pub rest_good : (r : PropertyLine) (x found : Option ℕ) → x ≡ found → x ≡ None → Ok r ≡ rest_read r found
rest_good r x found e h = rw (← e, h)

pub rest_ink : (r : PropertyLine) (x found : Option ℕ) (c : ℕ) → x ≡ found → x ≡ Some c → Err (record { no = 15; column = c }) ≡ rest_read r found
rest_ink r x found c e h = rw (← e, h)

module _ (t : List ℕ) (t' : List ℕ) where
  refused : (g : Got PropertyOrEnd) (r : Refusal) → length t' ≡ length t → g ≡ bad r.no r.column → KeptBy g t (Err r) t'
  refused g r stays e = record { read = rw e; entered = λ p h. bad_got (sym e ∙ h); same = λ h. bad_got (sym e ∙ h); size = stays }

  rest_kept : (l : Line) (i : ℕ) (v : PropertyOrEnd) (r₀ : PropertyLine) (r : Result PropertyLine Refusal) → KeptBy (got v) t (Ok r₀) t' → r ≡ rest_read r₀ (ink_column l i) →
      KeptBy (spaces_from l i (got v)) t r t'
  unfolding spaces_from
  rest_kept l i v r₀ r k e = go (ink_column l i) e
    where
      go : (found : Option ℕ) → r ≡ rest_read r₀ found → KeptBy (none_found 15 found (got v)) t r t'
      go None q = rw q k
      go (Some c) q = rw q (refused (bad 15 c) (record { no = 15; column = c }) k.size refl)

  list_kept : (kind : R.Kind) (es : List R.Entry) → length t' ≡ length t → t' ≡ enter kind t es → KeptBy (got (property (record { kind = kind; entries = es }))) t (Ok PropertyLine.Listed) t'
  list_kept kind es stays h =
      record {
        read = refl;
        entered = λ p q. subst (λ (x : R.Property). t' ≡ enter x.kind t x.entries) (property_inj (got_inj q)) h;
        same = λ q. absurd (let z : ◌≡◌ {A = ℕ} 0 1 = cc in omega arith);
        size = stays;
      }
    where
      property_inj : {p q : R.Property} → ◌≡◌ {A = PropertyOrEnd} (property p) (property q) → p ≡ q
      property_inj e = cc

pub end_kept : (l : Line) (t : List ℕ) (r : Result PropertyLine Refusal) → r ≡ rest_read PropertyLine.End (ink_column l 7) → KeptBy (spaces_from l 7 (got last)) t r t
end_kept l t r e =
    rest_kept t t l 7 last PropertyLine.End r
    (record { read = refl; entered = λ p q. absurd (let z : ◌≡◌ {A = ℕ} 0 1 = cc in omega arith); same = λ q. refl; size = refl })
    e

then_bad : {A B : Type 0} (x : Got A) (f : A → B) (code c : ℕ) → then x (λ a. got (f a)) ≡ bad code c → x ≡ bad code c
unfolding then
then_bad (got a) f code c h = bad_got (sym h)
then_bad (bad e d) f code c h = cc

module _ (n : ℕ) (kind : R.Kind) (l : Line) (t : List ℕ) (x : Result ℕ Refusal) (f : field_got x ≡ number_at l 7 9 1 8) where
  pub list_uncounted : (t' : List ℕ) (r : Refusal) → length t' ≡ length t → x ≡ Err r → KeptBy (list_of n kind (seen_of n t kind) l) t (Err r) t'
  unfolding list_of then
  list_uncounted t' r stays h = refused t t' (list_of n kind (seen_of n t kind) l) r stays (rw (← f, h))

  module _ (k : ℕ) (h : x ≡ Ok k) (y : Result (Unit {0}) Refusal) (t' : List ℕ) (stays : length t' ≡ length t)
      (e : entered_got y t' ≡ entered_from n kind l 10 k t) where
    counted : list_of n kind (seen_of n t kind) l ≡
        then (entries_of n kind l 10 k (seen_of n t kind)) (λ es. spaces_from l (10 + 8 * k) (got (property (record { kind = kind; entries = es }))))
    unfolding list_of then
    counted = rw (← f, h)

    pub list_refused : (r : Refusal) → y ≡ Err r → KeptBy (list_of n kind (seen_of n t kind) l) t (Err r) t'
    unfolding entered_from then
    list_refused r q =
        let b = then_bad (entries_of n kind l 10 k (seen_of n t kind)) (enter kind t) r.no r.column (sym e ∙ ap (λ (y : Result (Unit {0}) Refusal). entered_got y t') q) in
        refused t t' (list_of n kind (seen_of n t kind) l) r stays (counted ∙ rw b)

    pub list_entered : (r : Result PropertyLine Refusal) → y ≡ Ok tt → r ≡ rest_read PropertyLine.Listed (ink_column l (10 + 8 * k)) →
        KeptBy (list_of n kind (seen_of n t kind) l) t r t'
    unfolding entered_from then
    list_entered r q s =
        let g = then_got (entries_of n kind l 10 k (seen_of n t kind)) (λ (es : List R.Entry). got (enter kind t es)) t' (sym e ∙ ap (λ (y : Result (Unit {0}) Refusal). entered_got y t') q) in
        rw (counted, g.1) (rest_kept t t' l (10 + 8 * k) _ PropertyLine.Listed r (list_kept t t' kind g.0 stays (sym (got_inj g.2))) s)

-- a list's refusal handed on
pub kept_as : (g : Got PropertyOrEnd) (t t' : List ℕ) (x : Result PropertyLine Refusal) (r : Refusal) → IsErrAnd x (λ e. e ≡ r) → KeptBy g t (Err r) t' → KeptBy g t x t'
kept_as g t t' (Ok u) r is k = absurd is
kept_as g t t' (Err f) r is k = rw is k

pub ruleset list_laws = (list_uncounted, list_refused, list_entered)

-- ---- the four tags

module _ (x y : Got PropertyOrEnd) (t : List ℕ) (r : Result PropertyLine Refusal) (t' : List ℕ) where
  pub tag_here : (b : Bool) → b ≡ true → KeptBy x t r t' → KeptBy (cond b x y) t r t'
  tag_here b h k = rw h k

  pub tag_other : (b : Bool) → b ≡ false → KeptBy y t r t' → KeptBy (cond b x y) t r t'
  tag_other b h k = rw h k

pub no_tag : (t : List ℕ) → KeptBy (bad 13 1) t (Err (record { no = 13; column = 1 })) t
no_tag t = refused t t (bad 13 1) (record { no = 13; column = 1 }) refl refl

pub ruleset tag_laws = (tag_here, tag_other, no_tag, end_kept)

pub line_kept : (n : ℕ) (l : Line) (t : List ℕ) (r : Result PropertyLine Refusal) (t' : List ℕ) → KeptBy (property_of n (seen_of n t) l) t r t' →
    (r ≡ property_read (property_of n (seen_of n t) l)) × Kept n t l t'
line_kept n l t r t' k = (k.read, record { entered = k.entered; same = k.same; size = k.size })
