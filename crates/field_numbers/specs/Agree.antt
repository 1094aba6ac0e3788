-- The reading of an integer field finds exactly what the rule says, at any width; so a field stands for one number.
use Rattle.std.specs.Prelude.{Ok, Err, ℕ, zero, suc, ◌+◌, ◌≤◌, ◌<◌, ◌≡◌, ◌↔◌, Bool, true, false, cond, ◌&&◌, leb, ℤ, negsuc}
use Rattle.std.proofs.Common.{zero-add, suc-add, arith, sym, ap, ◌∙◌, subst, leb-true, le-leb, eqb-true, ne_eqb}
use Rattle.std.proofs.Math.Path.{refl}
use mathlib.Core.List.{List, [], ◌∷◌, ◌++◌, append_assoc}
use Rattle.std.proofs.Math.Bool.{and-false}
use Rattle.std.proofs.Math.Dec.{eqb}
use Rattle.std.proofs.Math.IntN.{pos}
use Rattle.text.specs.Text.{Bytes, Line, Each}
use Rattle.text.specs.Columns.{columns, spaces}
use Rattle.text.specs.Laws.{and_true}
use Rattle.field_numbers.specs.Number.{Digit, Digits, Integer, Number, Signed, Listed, SignedListed, Between, decimal_after}
use Rattle.field_numbers.specs.Read.{IntegerRead, is, malformed, is_digit, all_digits, some_digits, after_spaces, before, before_spaces, signed, digits_read, after_blank, integer_in, ranged, number_in, is_between, signed_ranged, signed_in}
use Rattle.field_numbers.specs.declared.NumberFault.{NumberFault}

-- digits by the test and by the rule
pub digit_is : (b : ℕ) → Digit b → is_digit b ≡ true
digit_is b h = rw (le-leb 48 b h.0, le-leb b 57 h.1)

pub is_digit_lem : (b : ℕ) → is_digit b ≡ true → Digit b
is_digit_lem b h =
    let a = and_true (leb 48 b) (leb b 57) h in
    (leb-true 48 b a.0, leb-true b 57 a.1)

pub each_digit : (bs : Bytes) → Each Digit bs → all_digits bs ≡ true
unfolding all_digits Each
each_digit [] h = refl
each_digit (b ∷ bs) h = rw (digit_is b h.0, each_digit bs h.1)

pub digit_each : (bs : Bytes) → all_digits bs ≡ true → Each Digit bs
unfolding all_digits Each
digit_each [] h = tt
digit_each (b ∷ bs) h =
    let a = and_true (is_digit b) (all_digits bs) h in
    (is_digit_lem b a.0, digit_each bs a.1)

-- a digit is neither a space nor a sign
pub digit_not : (d k : ℕ) → k < 48 → Digit d → eqb d k ≡ false
digit_not d k h t = let l : 48 ≤ d = t.0 in ne_eqb d k (λ e. omega arith)

-- ---- leading spaces
pub pass_spaces : (i : ℕ) (rest : Bytes) → after_spaces (spaces i ++ rest) ≡ after_spaces rest
unfolding after_spaces
pass_spaces zero rest = refl
pass_spaces (suc i) rest = pass_spaces i rest

pub spaces_only : (i : ℕ) → after_spaces (spaces i) ≡ []
unfolding after_spaces
spaces_only zero = refl
spaces_only (suc i) = spaces_only i

-- so many spaces, and then the rest
pub record Led (cs rest : Bytes) : Type 0 where
  pub count : ℕ
  pub parts : cs ≡ spaces count ++ rest

led_by : (b : ℕ) (bs : Bytes) (t : Bool) → eqb b 32 ≡ t → Led bs (after_spaces bs) → Led (b ∷ bs) (cond t (after_spaces bs) (b ∷ bs))
led_by b bs true e l =
    let s : b ≡ 32 = eqb-true b 32 e in
    record { count = suc l.count; parts = rw s (ap (λ (r : Bytes). 32 ∷ r) l.parts) }
led_by b bs false e l = record { count = 0; parts = refl }

pub led : (cs : Bytes) → Led cs (after_spaces cs)
unfolding after_spaces
led [] = record { count = 0; parts = refl }
led (b ∷ bs) = led_by b bs (eqb b 32) refl (led bs)

-- ---- trailing spaces
pub before_ink : (b : ℕ) (rest : Bytes) → eqb b 32 ≡ false → before b rest ≡ b ∷ rest
before_ink b [] h = rw h
before_ink b (c ∷ cs) h = refl

pub spaces_shed : (j : ℕ) → before_spaces (spaces j) ≡ []
unfolding before_spaces
spaces_shed zero = refl
spaces_shed (suc j) = rw (spaces_shed j)

pub shed_append : (xs : Bytes) (j : ℕ) → before_spaces (xs ++ spaces j) ≡ before_spaces xs
unfolding before_spaces
shed_append [] j = spaces_shed j
shed_append (x ∷ xs) j = ap (before x) (shed_append xs j)

-- what ends in a byte that is no space keeps all that stands before it
pub shed_front : (front : Bytes) (d : ℕ) (ds : Bytes) → before_spaces (d ∷ ds) ≡ d ∷ ds → before_spaces (front ++ (d ∷ ds)) ≡ front ++ (d ∷ ds)
unfolding before_spaces
shed_front [] d ds h = h
shed_front (b ∷ []) d ds h = ap (before b) h
shed_front (b ∷ c ∷ front) d ds h = ap (before b) (shed_front (c ∷ front) d ds h)

each_shed : (ds : Bytes) → Each Digit ds → before_spaces ds ≡ ds
unfolding before_spaces Each
each_shed [] h = refl
each_shed (d ∷ ds) h = ap (before d) (each_shed ds h.1) ∙ before_ink d ds (digit_not d 32 (omega arith) h.0)

front_shed : (front ds : Bytes) (k : ℕ) → Digits ds k → before_spaces (front ++ ds) ≡ front ++ ds
front_shed front [] k h = let z : 1 ≤ 0 = h.some in absurd (omega arith)
front_shed front (d ∷ ds) k h = shed_front front d ds (each_shed (d ∷ ds) h.each)

plain_shed : (front ds : Bytes) (j k : ℕ) → Digits ds k → before_spaces (front ++ (ds ++ spaces j)) ≡ front ++ ds
plain_shed front ds j k h = ap before_spaces (sym (append_assoc front ds (spaces j))) ∙ shed_append (front ++ ds) j ∙ front_shed front ds k h

sign_shed : (i s : ℕ) (ds : Bytes) (j k : ℕ) → Digits ds k → before_spaces (spaces i ++ (s ∷ (ds ++ spaces j))) ≡ spaces i ++ (s ∷ ds)
sign_shed i s ds j k h =
    ap before_spaces (sym (append_assoc (spaces i) (s ∷ []) (ds ++ spaces j))) ∙ plain_shed (spaces i ++ (s ∷ [])) ds j k h ∙ append_assoc (spaces i) (s ∷ []) ds

-- bytes, and then so many spaces
pub record Trailed (ds cs : Bytes) : Type 0 where
  pub count : ℕ
  pub parts : cs ≡ ds ++ spaces count

trail_last : (b : ℕ) (bs : Bytes) (t : Bool) → eqb b 32 ≡ t → Trailed [] bs → Trailed (cond t [] (b ∷ [])) (b ∷ bs)
trail_last b bs true e l =
    let s : b ≡ 32 = eqb-true b 32 e in
    record { count = suc l.count; parts = rw s (ap (λ (r : Bytes). 32 ∷ r) l.parts) }
trail_last b bs false e l = record { count = l.count; parts = ap (λ (r : Bytes). b ∷ r) l.parts }

trail_by : (b : ℕ) (bs rest : Bytes) → Trailed rest bs → Trailed (before b rest) (b ∷ bs)
trail_by b bs [] l = trail_last b bs (eqb b 32) refl l
trail_by b bs (c ∷ cs) l = record { count = l.count; parts = ap (λ (r : Bytes). b ∷ r) l.parts }

pub trailed : (cs : Bytes) → Trailed (before_spaces cs) cs
unfolding before_spaces
trailed [] = record { count = 0; parts = refl }
trailed (b ∷ bs) = trail_by b bs (before_spaces bs) (trailed bs)

-- ---- digits
pub digits_some : (ds : Bytes) (k : ℕ) → Digits ds k → some_digits ds ≡ true
digits_some [] k h = let z : 1 ≤ 0 = h.some in absurd (omega arith)
digits_some (d ∷ ds) k h = each_digit (d ∷ ds) h.each

pub some_digits_lem : (ds : Bytes) → some_digits ds ≡ true → Digits ds (decimal_after 0 ds)
some_digits_lem [] h = absurd (let z : ◌≡◌ {A = ℕ} 0 1 = cc in omega arith)
some_digits_lem (d ∷ ds) h = record { some = omega arith; each = digit_each (d ∷ ds) h; number = refl }

-- digits as they are read, with the sign before them
pub digits_read_lem : (minus : Bool) (ds : Bytes) (k : ℕ) → Digits ds k → digits_read minus ds ≡ is (signed minus k)
unfolding digits_read
digits_read_lem minus ds k h = rw (digits_some ds k h, h.number)

record Read (minus : Bool) (ds : Bytes) (z : ℤ) : Type 0 where
  digits : Digits ds (decimal_after 0 ds)
  number : z ≡ signed minus (decimal_after 0 ds)

read_by : (minus : Bool) (ds : Bytes) (z : ℤ) (t : Bool) → some_digits ds ≡ t → cond t (is (signed minus (decimal_after 0 ds))) malformed ≡ is z → Read minus ds z
read_by minus ds z true t h = record { digits = some_digits_lem ds t; number = cc }
read_by minus ds z false t h = absurd (let z : ◌≡◌ {A = ℕ} 0 1 = cc in omega arith)

read_digits : (minus : Bool) (ds : Bytes) (z : ℤ) → digits_read minus ds ≡ is z → Read minus ds z
unfolding digits_read
read_digits minus ds z h = read_by minus ds z (some_digits ds) refl h

-- ---- what the rule says is read
plain_read : (negatives : Bool) (ds : Bytes) (k : ℕ) → Digits ds k → after_blank negatives (after_spaces ds) ≡ is (pos k)
unfolding after_blank after_spaces Each
plain_read negatives [] k h = let z : 1 ≤ 0 = h.some in absurd (omega arith)
plain_read negatives (d ∷ ds) k h =
    let t = h.each.0 in
    rw (digit_not d 32 (omega arith) t, digit_not d 45 (omega arith) t, digit_not d 43 (omega arith) t, and-false negatives) (digits_read_lem false (d ∷ ds) k h)

pub integer_read : (negatives : Bool) {cs : Bytes} {z : ℤ} → Integer negatives cs z → integer_in negatives cs ≡ is z
unfolding integer_in after_blank after_spaces
integer_read negatives (Integer.blank i e) = rw (e, spaces_shed i)
integer_read negatives (Integer.plain i ds j k e h) = rw (e, plain_shed (spaces i) ds j k h, pass_spaces i ds) (plain_read negatives ds k h)
integer_read negatives (Integer.plus i ds j k n e h) = rw (e, sign_shed i 43 ds j k h, pass_spaces i (43 ∷ ds), n) (digits_read_lem false ds k h)
integer_read negatives (Integer.minus i ds j k n e h) = rw (e, sign_shed i 45 ds j k h, pass_spaces i (45 ∷ ds), n) (digits_read_lem true ds k h)

-- ---- what is read is what the rule says
spaces_join : (i j : ℕ) → ◌≡◌ {A = Bytes} (spaces i ++ spaces j) (spaces (i + j))
spaces_join zero j = rw (zero-add j)
spaces_join (suc i) j = rw (suc-add i j) (ap (λ (r : Bytes). 32 ∷ r) (spaces_join i j))

module _ (negatives : Bool) (cs : Bytes) (z : ℤ) (i j : ℕ) where
  plus_rule : (b : ℕ) (bs : Bytes) (t : Bool) → (negatives && eqb b 43) ≡ t → cs ≡ spaces i ++ (b ∷ (bs ++ spaces j)) →
      cond t (digits_read false bs) (digits_read false (b ∷ bs)) ≡ is z → Integer negatives cs z
  plus_rule b bs true t e h =
      let a = and_true negatives (eqb b 43) t in
      let r = read_digits false bs z h in
      rw r.number (Integer.plus i bs j (decimal_after 0 bs) a.0 (rw (eqb-true b 43 a.1) at e) r.digits)
  plus_rule b bs false t e h =
      let r = read_digits false (b ∷ bs) z h in
      rw r.number (Integer.plain i (b ∷ bs) j (decimal_after 0 (b ∷ bs)) e r.digits)

  ink_rule : (b : ℕ) (bs : Bytes) (t : Bool) → (negatives && eqb b 45) ≡ t → cs ≡ spaces i ++ (b ∷ (bs ++ spaces j)) →
      cond t (digits_read true bs) (cond (negatives && eqb b 43) (digits_read false bs) (digits_read false (b ∷ bs))) ≡ is z → Integer negatives cs z
  ink_rule b bs true t e h =
      let a = and_true negatives (eqb b 45) t in
      let r = read_digits true bs z h in
      rw r.number (Integer.minus i bs j (decimal_after 0 bs) a.0 (rw (eqb-true b 45 a.1) at e) r.digits)
  ink_rule b bs false t e h = plus_rule b bs (negatives && eqb b 43) refl e h

  rest_rule : (rest : Bytes) → cs ≡ spaces i ++ (rest ++ spaces j) → after_blank negatives rest ≡ is z → Integer negatives cs z
  unfolding after_blank
  rest_rule [] e h =
      let w : z ≡ pos 0 = cc in
      rw w (Integer.blank (i + j) (e ∙ spaces_join i j))
  rest_rule (b ∷ bs) e h = ink_rule b bs (negatives && eqb b 45) refl e h

pub read_integer : (negatives : Bool) (cs : Bytes) (z : ℤ) → integer_in negatives cs ≡ is z → Integer negatives cs z
unfolding integer_in
read_integer negatives cs z h =
    let t = trailed cs in
    let l = led (before_spaces cs) in
    let e : cs ≡ spaces l.count ++ (after_spaces (before_spaces cs) ++ spaces t.count) =
    t.parts ∙ ap (λ (r : Bytes). r ++ spaces t.count) l.parts ∙ append_assoc (spaces l.count) (after_spaces (before_spaces cs)) (spaces t.count) in
    rest_rule negatives cs z l.count t.count (after_spaces (before_spaces cs)) e h

pub integer_agrees : (negatives : Bool) (cs : Bytes) (z : ℤ) → (integer_in negatives cs ≡ is z) ↔ Integer negatives cs z
integer_agrees negatives cs z = (read_integer negatives cs z, integer_read negatives)

-- ---- ranges
record Ranged (least most k : ℕ) (r : IntegerRead) : Type 0 where
  read : r ≡ is (pos k)
  low : least ≤ k
  high : k ≤ most

ranged_by : (least most j k : ℕ) (t : Bool) → (leb least j && leb j most) ≡ t → cond t (Ok j) (Err NumberFault.Outside) ≡ Ok k → Ranged least most k (is (pos j))
ranged_by least most j k true t h =
    let e : j ≡ k = cc in
    let a = and_true (leb least j) (leb j most) t in
    let low = leb-true least j a.0 in
    let high = leb-true j most a.1 in
    record { read = rw e; low = omega arith; high = omega arith }
ranged_by least most j k false t h = absurd (let z : ◌≡◌ {A = ℕ} 0 1 = cc in omega arith)

ranged_is : (least most k : ℕ) (r : IntegerRead) → ranged least most r ≡ Ok k → Ranged least most k r
unfolding ranged
ranged_is least most k (is (pos j)) h = ranged_by least most j k (leb least j && leb j most) refl h
ranged_is least most k (is (negsuc j)) h = absurd (let z : ◌≡◌ {A = ℕ} 0 1 = cc in omega arith)
ranged_is least most k malformed h = absurd (let z : ◌≡◌ {A = ℕ} 0 1 = cc in omega arith)

read_number : (l : Line) (i j least most k : ℕ) → number_in least most (columns l i j) ≡ Ok k → Number l i j least most k
unfolding number_in
read_number l i j least most k h =
    let r = ranged_is least most k (integer_in false (columns l i j)) h in
    record { field = read_integer false (columns l i j) (pos k) r.read; low = r.low; high = r.high }

number_read : (l : Line) (i j least most k : ℕ) → Number l i j least most k → number_in least most (columns l i j) ≡ Ok k
unfolding number_in ranged
number_read l i j least most k n = rw (integer_read false n.field, le-leb least k n.low, le-leb k most n.high)

pub number_agrees : (l : Line) (i j least most k : ℕ) → (number_in least most (columns l i j) ≡ Ok k) ↔ Number l i j least most k
number_agrees l i j least most k = (read_number l i j least most k, number_read l i j least most k)

pub between_is : (below above : ℕ) (z : ℤ) → Between below above z → is_between below above z ≡ true
between_is below above (pos k) h = le-leb k above h
between_is below above (negsuc k) h = le-leb (suc k) below h

pub is_between_lem : (below above : ℕ) (z : ℤ) → is_between below above z ≡ true → Between below above z
is_between_lem below above (pos k) h = leb-true k above h
is_between_lem below above (negsuc k) h = leb-true (suc k) below h

record SignedRanged (below above : ℕ) (z : ℤ) (r : IntegerRead) : Type 0 where
  read : r ≡ is z
  range : Between below above z

signed_by : (below above : ℕ) (y z : ℤ) (t : Bool) → is_between below above y ≡ t → cond t (Ok y) (Err NumberFault.Outside) ≡ Ok z → SignedRanged below above z (is y)
signed_by below above y z true t h =
    let e : y ≡ z = cc in
    record { read = rw e; range = subst (Between below above) e (is_between_lem below above y t) }
signed_by below above y z false t h = absurd (let z : ◌≡◌ {A = ℕ} 0 1 = cc in omega arith)

signed_is : (below above : ℕ) (z : ℤ) (r : IntegerRead) → signed_ranged below above r ≡ Ok z → SignedRanged below above z r
unfolding signed_ranged
signed_is below above z (is y) h = signed_by below above y z (is_between below above y) refl h
signed_is below above z malformed h = absurd (let z : ◌≡◌ {A = ℕ} 0 1 = cc in omega arith)

read_signed : (l : Line) (i j below above : ℕ) (z : ℤ) → signed_in below above (columns l i j) ≡ Ok z → Signed l i j below above z
unfolding signed_in
read_signed l i j below above z h =
    let r = signed_is below above z (integer_in true (columns l i j)) h in
    record { field = read_integer true (columns l i j) z r.read; range = r.range }

signed_read : (l : Line) (i j below above : ℕ) (z : ℤ) → Signed l i j below above z → signed_in below above (columns l i j) ≡ Ok z
unfolding signed_in signed_ranged
signed_read l i j below above z n = rw (integer_read true n.field, between_is below above z n.range)

pub signed_agrees : (l : Line) (i j below above : ℕ) (z : ℤ) → (signed_in below above (columns l i j) ≡ Ok z) ↔ Signed l i j below above z
signed_agrees l i j below above z = (read_signed l i j below above z, signed_read l i j below above z)

-- ---- a field stands for one number, whatever the two ranges or lists
pub one_integer : (negatives : Bool) (cs : Bytes) (y z : ℤ) → Integer negatives cs y → Integer negatives cs z → y ≡ z
one_integer negatives cs y z a b = cc (integer_read negatives a, integer_read negatives b)

pos_inj : (j k : ℕ) → pos j ≡ pos k → j ≡ k
pos_inj j k p = cc

pub one_number : {l : Line} {i e least most least' most' j k : ℕ} → Number l i e least most j → Number l i e least' most' k → j ≡ k
one_number {l} {i} {e} {j = j} {k = k} a b = pos_inj j k (one_integer false (columns l i e) (pos j) (pos k) a.field b.field)

pub one_listed : {l : Line} {i e : ℕ} {xs ys : List ℕ} {j k : ℕ} → Listed l i e xs j → Listed l i e ys k → j ≡ k
one_listed {l} {i} {e} {j = j} {k = k} a b = pos_inj j k (one_integer false (columns l i e) (pos j) (pos k) a.field b.field)

pub one_signed : {l : Line} {i e below above below' above' : ℕ} {y z : ℤ} → Signed l i e below above y → Signed l i e below' above' z → y ≡ z
one_signed {l} {i} {e} {y = y} {z = z} a b = one_integer true (columns l i e) y z a.field b.field

pub one_signed_listed : {l : Line} {i e : ℕ} {xs ys : List ℤ} {y z : ℤ} → SignedListed l i e xs y → SignedListed l i e ys z → y ≡ z
one_signed_listed {l} {i} {e} {y = y} {z = z} a b = one_integer true (columns l i e) y z a.field b.field
