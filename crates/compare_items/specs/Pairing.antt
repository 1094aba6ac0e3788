-- Value lines of two items, gone through side by side.
use Rattle.std.specs.Prelude.{ℕ, suc, ◌+◌, ◌-◌, ◌*◌, ◌^◌, ◌≤◌, ◌<◌, ◌≡◌, refl, length, take, drop, ℤ}
use Rattle.std.proofs.Common.{arith, add-one, sym, ap, ◌∙◌, Fits}
use Rattle.std.proofs.Math.Path.{ap₂}
use mathlib.Core.List.{List, []}
use Rattle.std.specs.Int.{w64}
use Rattle.text.specs.Text.{Bytes, Line}
use Rattle.compare_rules.specs.declared.Place.{Place}
use Rattle.compare_rules.specs.declared.Count.{Count}
use Rattle.compare_rules.specs.Along.{Compared, along}
use Rattle.compare_rules.specs.Differences.{Difference, place, texts, linewise}
use Rattle.compare_rules.specs.Log.{Log, log, noted, Small}
use Rattle.compare_rules.specs.Noted.{noted_joined, noted_length}
use Rattle.compare_items.specs.declared.Value.{Value}
use Rattle.compare_items.specs.declared.Both.{Both}
use Rattle.compare_items.specs.Part.{values_at, past_at}
use Rattle.compare_items.specs.Ahead.{ValueIs, line_ahead, over_ahead}

-- record and item have numbers that an i64 holds
pub record SmallItem (p : Place) : Type 0 where
  pub position : p.position < 2 ^ 63
  pub index : p.index < 2 ^ 63

-- the value lines of the item that p names
abbrev pub lines_of : Place → Compared Line Difference
lines_of p = linewise p.position p.index

-- one of two lists is at its end
pub data OneOver (xs ys : List Line) : Type 0 where
  left_over : xs ≡ [] → OneOver xs ys
  right_over : ys ≡ [] → OneOver xs ys

-- from positions i and j, with g₀, to positions x and y, with g; the next value line is number k
pub record Pairing (p : Place) (a : Bytes) (i : ℕ) (b : Bytes) (j : ℕ) (g₀ g : Log) (x y k : ℕ) : Type 0 where
  pub left_in : x ≤ length a
  pub right_in : y ≤ length b
  pub low_left : k ≤ x + 1
  pub low_right : k ≤ y + 1
  pub left_up : i ≤ x
  pub right_up : j ≤ y
  pub same : noted g₀ (along (lines_of p) 1 (values_at a i) (values_at b j)) ≡ noted g (along (lines_of p) k (values_at a x) (values_at b y))
  pub past_left : past_at a i ≡ past_at a x
  pub past_right : past_at b j ≡ past_at b y

pub record Paired (p : Place) (a : Bytes) (i : ℕ) (b : Bytes) (j : ℕ) (g₀ : Log) (l : List ℤ) (r : Both) : Type 0 where
  pub pairing : Pairing p a i b j g₀ (log l r.count) r.left r.right r.next
  pub over : OneOver (values_at a r.left) (values_at b r.right)

module _ (a : Bytes) (x : ℕ) (u : Value) (e n : ℕ) (hu : ValueIs a x u) (qu : u ≡ Value.Line e n) where
  pub line_start : x ≤ e
  line_start = (line_ahead a x u e n hu qu).start

  pub line_end_lem : e ≤ length a
  line_end_lem = let t = line_ahead a x u e n hu qu in omega (arith, t.end, t.inside)

  pub line_less : length a - n < length a - x
  line_less = let t = line_ahead a x u e n hu qu in omega (arith, t.start, t.end, t.inside)

module _ (p : Place) (a : Bytes) (i : ℕ) (b : Bytes) (j : ℕ) (g₀ : Log) where
  pub pairing_start : i ≤ length a → j ≤ length b → Pairing p a i b j g₀ g₀ i j 1
  pairing_start h k =
      record { left_in = h; right_in = k; low_left = omega arith; low_right = omega arith; left_up = omega arith; right_up = omega arith; same = refl; past_left = refl; past_right = refl }

  module _ (l : List ℤ) (c : Count) (x y k : ℕ) (w : Pairing p a i b j g₀ (log l c) x y k) where
    pub pairing_long : length l ≡ length g₀.list
    pairing_long =
        sym (noted_length (log l c) (along (lines_of p) k (values_at a x) (values_at b y)))
        ∙ ap (λ (f : Log). length f.list) (sym w.same)
        ∙ noted_length g₀ (along (lines_of p) 1 (values_at a i) (values_at b j))

    pub pairing_left : (u : Value) (n : ℕ) → ValueIs a x u → u ≡ Value.Over n → Paired p a i b j g₀ l (record { left = x; right = y; next = k; count = c })
    pairing_left u n h q = record { pairing = w; over = OneOver.left_over (over_ahead a x u n h q).values }

    pub pairing_right : (v : Value) (m : ℕ) → ValueIs b y v → v ≡ Value.Over m → Paired p a i b j g₀ l (record { left = x; right = y; next = k; count = c })
    pairing_right v m h q = record { pairing = w; over = OneOver.right_over (over_ahead b y v m h q).values }

    module _ (u : Value) (e n : ℕ) (hu : ValueIs a x u) (qu : u ≡ Value.Line e n) where
      pub spot_small : SmallItem p → length a * 1 < 2 ^ 63 → Small (place p.position 8 p.index k)
      spot_small s h = let t = line_ahead a x u e n hu qu in record { position = s.position; part = omega arith; index = s.index; field = omega (arith, w.low_left, t.start, t.end, t.inside) }

      pub fits_next : length a * 1 < 2 ^ 63 → Fits w64 (k + 1)
      fits_next h = let t = line_ahead a x u e n hu qu in record { fits = omega (arith, w.low_left, t.start, t.end, t.inside) }

      module _ (v : Value) (f m : ℕ) (hv : ValueIs b y v) (qv : v ≡ Value.Line f m) where
        pub pairing_next : (l' : List ℤ) (c' : Count) →
            log l' c' ≡ noted (log l c) (texts (place p.position 8 p.index k) (take (e - x) (drop x a)) (take (f - y) (drop y b))) →
            Pairing p a i b j g₀ (log l' c') n m (k + 1)
        unfolding along
        pairing_next l' c' q =
            let t = line_ahead a x u e n hu qu in
            let z = line_ahead b y v f m hv qv in
            record {
              left_in = t.inside;
              right_in = z.inside;
              low_left = omega (arith, w.low_left, t.start, t.end);
              low_right = omega (arith, w.low_right, z.start, z.end);
              left_up = omega (arith, w.left_up, t.start, t.end);
              right_up = omega (arith, w.right_up, z.start, z.end);
              same =
                  w.same
                  ∙ ap₂ (λ (ls ks : List Line). noted (log l c) (along (lines_of p) k ls ks)) t.values z.values
                  ∙ noted_joined (log l c) (texts (place p.position 8 p.index k) (take (e - x) (drop x a)) (take (f - y) (drop y b))) (along (lines_of p) (suc k) (values_at a n) (values_at b m))
                  ∙ ap₂ (λ (o : ℕ) (h : Log). noted h (along (lines_of p) o (values_at a n) (values_at b m))) (sym (add-one k)) (sym q);
              past_left = w.past_left ∙ t.past;
              past_right = w.past_right ∙ z.past;
            }

pub ruleset pairing_laws = (pairing_start, pairing_long, pairing_left, pairing_right, line_start, line_end_lem, line_less, spot_small, fits_next, pairing_next)
