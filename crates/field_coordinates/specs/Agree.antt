-- The rule and the reading of a coordinate field say the same; a field stands for one number, and its range is known.
use Rattle.std.specs.Prelude.{Option, Some, ℕ, zero, suc, ◌+◌, ◌*◌, ◌-◌, ◌≤◌, ◌≡◌, refl, [], ◌∷◌, ◌++◌, Bool, true, false, cond, eqb, length, drop, ℤ, pos, neg_ℤ}
use Rattle.std.proofs.Common.{arith, sym, ap, ◌∙◌, length-append, take_at, drop_at, drop-drop}
use Rattle.std.proofs.lemmas.List.{get_or_at}
use Rattle.text.specs.Text.{Bytes, Line, Each}
use Rattle.text.specs.Columns.{columns, spaces}
use Rattle.text.specs.Agree.{columns_length}
use Rattle.field_numbers.specs.Number.{Digit, Digits, decimal_after, Between}
use Rattle.field_numbers.specs.Read.{after_spaces, signed}
use Rattle.field_numbers.specs.Agree.{digit_not, digits_some, pass_spaces}
use Rattle.field_coordinates.specs.Coordinate.{Pointed, Coordinate}
use Rattle.field_coordinates.specs.Read.{point_read, before_point, inked, blank_or, coordinate_in}

-- from the rule to the reading
point_stays : (bs fs : Bytes) (r : Option ℤ) → blank_or (after_spaces (bs ++ (46 ∷ fs))) r ≡ r
unfolding after_spaces
point_stays [] fs r = refl
point_stays (b ∷ bs) fs r = go (eqb b 32) (point_stays bs fs r) where
  go : (t : Bool) → blank_or (after_spaces (bs ++ (46 ∷ fs))) r ≡ r →
      blank_or (cond t (after_spaces (bs ++ (46 ∷ fs))) (b ∷ (bs ++ (46 ∷ fs)))) r ≡ r
  go true h = h
  go false h = refl

drop_point : (bs fs : Bytes) → length bs ≡ 5 → drop 6 (bs ++ (46 ∷ fs)) ≡ fs
drop_point bs fs h = sym (drop-drop 1 5 (bs ++ (46 ∷ fs))) ∙ ap (λ (l : Bytes). drop 1 l) (drop_at bs (46 ∷ fs) 5 h)

pointed_reads : {cs bs fs : Bytes} → Pointed cs bs fs → coordinate_in cs ≡ before_point (after_spaces bs) fs
unfolding coordinate_in inked
pointed_reads {cs} {bs} {fs} p =
    rw p.parts
    (point_stays bs fs (inked (bs ++ (46 ∷ fs))) ∙
    rw (get_or_at bs 46 fs 0 5 p.column_6, take_at bs (46 ∷ fs) 5 p.column_6, drop_point bs fs p.column_6))

digits_read_lem : (minus : Bool) {ds fs : Bytes} {whole part : ℕ} → Digits ds whole → Digits fs part →
    point_read minus ds fs ≡ Some (signed minus (whole * 10000 + part))
unfolding point_read
digits_read_lem minus {ds} {fs} {whole} {part} a b = rw (digits_some ds whole a, digits_some fs part b, a.number, b.number)

digits_stay : (ds : Bytes) (k : ℕ) → Digits ds k → after_spaces ds ≡ ds
unfolding after_spaces Each
digits_stay [] k h = refl
digits_stay (d ∷ ds) k h = rw (digit_not d 32 (omega arith) h.each.0)

plain_read : (ds fs : Bytes) {whole part : ℕ} → Digits ds whole → Digits fs part →
    before_point ds fs ≡ Some (pos (whole * 10000 + part))
unfolding before_point Each
plain_read [] fs a b = let z : 1 ≤ 0 = a.some in absurd (omega arith)
plain_read (d ∷ ds) fs a b = rw (digit_not d 45 (omega arith) a.each.0) (digits_read_lem false a b)

pub read_coordinate : {cs : Bytes} {z : ℤ} → Coordinate cs z → coordinate_in cs ≡ Some z
unfolding coordinate_in after_spaces before_point
read_coordinate (Coordinate.blank e) = rw e
read_coordinate (Coordinate.plain i ds fs w p q a b) = pointed_reads q ∙ rw (pass_spaces i ds, digits_stay ds w a) (plain_read ds fs a b)
read_coordinate (Coordinate.minus i ds fs w p q a b) = pointed_reads q ∙ rw (pass_spaces i (45 ∷ ds)) (digits_read_lem true a b)

pub one_coordinate : {cs : Bytes} {y z : ℤ} → Coordinate cs y → Coordinate cs z → y ≡ z
one_coordinate a b = cc (read_coordinate a, read_coordinate b)

-- ten columns are ten bytes
pub ten_columns : (l : Line) (i : ℕ) → length (columns l i (i + 9)) ≡ 10
ten_columns l i = columns_length l i (suc (i + 9) - i) ∙ omega arith

-- the number of n nines after the digits of k
abbrev pub nines : ℕ → ℕ → ℕ
nines k zero = k
nines k (suc n) = nines (k * 10 + 9) n

nines_more : (k m n : ℕ) → k ≤ m → k ≤ nines m n
nines_more k m zero h = h
nines_more k m (suc n) h = nines_more k (m * 10 + 9) n (omega arith)

nines_after : (ds : Bytes) (n k m : ℕ) → Each Digit ds → length ds ≤ n → k ≤ m → decimal_after k ds ≤ nines m n
unfolding decimal_after Each
nines_after [] n k m h s l = nines_more k m n l
nines_after (d ∷ ds) zero k m h s l = absurd (omega arith)
nines_after (d ∷ ds) (suc n) k m h s l =
    let t : d ≤ 57 = h.0.1 in
    nines_after ds n (k * 10 + (d - 48)) (m * 10 + 9) h.1 (omega arith) (omega arith)

-- n digits at most stand for n nines at most
pub digits_range : (n : ℕ) {ds : Bytes} {k : ℕ} → Digits ds k → length ds ≤ n → k ≤ nines 0 n
digits_range n {ds} {k} h s =
    let t = nines_after ds n 0 0 h.each s (omega arith) in
    let e = h.number in
    omega arith

-- a coordinate is from -9,999.9999 to 99,999.9999
neg_between : (below above k : ℕ) → k ≤ below → Between below above (neg_ℤ (pos k))
neg_between below above zero h = omega arith
neg_between below above (suc k) h = h

pub coordinate_range : {cs : Bytes} {z : ℤ} → Coordinate cs z → Between 99999999 999999999 z
coordinate_range (Coordinate.blank e) = omega arith
coordinate_range (Coordinate.plain i ds fs w p q a b) =
    let n : length ds ≤ 5 = omega (arith, length-append (spaces i) ds, q.column_6) in
    let u = digits_range 5 a n in
    let v = digits_range 4 b (omega (arith, q.four)) in
    omega arith
coordinate_range (Coordinate.minus i ds fs w p q a b) =
    let n : length ds ≤ 4 = omega (arith, length-append (spaces i) (45 ∷ ds), q.column_6) in
    let u = digits_range 4 a n in
    let v = digits_range 4 b (omega (arith, q.four)) in
    neg_between 99999999 999999999 (w * 10000 + p) (omega arith)
