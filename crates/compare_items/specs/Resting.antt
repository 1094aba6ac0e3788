-- Value lines on one side only; and the two sides together.
use Rattle.std.specs.Prelude.{ℕ, ◌+◌, ◌*◌, ◌^◌, ◌≤◌, ◌<◌, ◌≡◌, refl, length, ℤ}
use Rattle.std.proofs.Common.{arith, add-one, ap₂, ◌∙◌, Fits}
use Rattle.std.proofs.Math.Path.{sym, ap}
use mathlib.Core.List.{List, [], ◌∷◌, ◌++◌, append-nil}
use Rattle.std.proofs.Math.IntN.{pos}
use Rattle.std.specs.Int.{w64}
use Rattle.text.specs.Text.{Bytes, Line}
use Rattle.compare_rules.specs.declared.Place.{Place}
use Rattle.compare_rules.specs.declared.Count.{Count}
use Rattle.compare_rules.specs.Along.{along}
use Rattle.compare_rules.specs.Differences.{Difference, place, left_only, right_only}
use Rattle.compare_rules.specs.Log.{Log, log, noted, Small}
use Rattle.compare_rules.specs.Noted.{noted_joined, noted_length}
use Rattle.compare_items.specs.declared.Value.{Value}
use Rattle.compare_items.specs.declared.Both.{Both}
use Rattle.compare_items.specs.declared.Rest.{Rest}
use Rattle.compare_items.specs.Part.{items_at, values_at, past_at}
use Rattle.compare_items.specs.Ahead.{ValueIs, line_ahead, over_ahead}
use Rattle.compare_items.specs.Pairing.{SmallItem, lines_of, OneOver, Paired, line_less}

-- value lines on one side only, the first with number k, of item i of record r
unfoldable pub alone : ℕ → ℕ → ℕ → ℕ → List Line → List Difference
alone side r i k [] = []
alone side r i k (l ∷ ls) = record { at = place r 8 i k; side = side; left = pos 0; right = pos 0 } ∷ alone side r i (k + 1) ls

pub alone_left : (p : Place) (k : ℕ) (ls : List Line) → along (lines_of p) k ls [] ≡ alone left_only p.position p.index k ls
unfolding along alone
alone_left p k [] = refl
alone_left p k (l ∷ ls) = ap₂ (λ (d : Difference) (ds : List Difference). d ∷ ds) refl (ap (λ (j : ℕ). along (lines_of p) j ls []) (sym (add-one k)) ∙ alone_left p (k + 1) ls)

pub alone_right : (p : Place) (k : ℕ) (ls : List Line) → along (lines_of p) k [] ls ≡ alone right_only p.position p.index k ls
unfolding along alone
alone_right p k [] = refl
alone_right p k (l ∷ ls) = ap₂ (λ (d : Difference) (ds : List Difference). d ∷ ds) refl (ap (λ (j : ℕ). along (lines_of p) j [] ls) (sym (add-one k)) ∙ alone_right p (k + 1) ls)

pub record Resting (p : Place) (side : ℕ) (s : Bytes) (at : ℕ) (g₀ g : Log) (x k : ℕ) : Type 0 where
  pub inside : x ≤ length s
  pub low : k ≤ x + 1
  pub later : at ≤ x
  pub same : noted g₀ (alone side p.position p.index p.field (values_at s at)) ≡ noted g (alone side p.position p.index k (values_at s x))
  pub past : past_at s at ≡ past_at s x

pub record Rested (p : Place) (side : ℕ) (s : Bytes) (at : ℕ) (g₀ : Log) (l : List ℤ) (r : Rest) : Type 0 where
  pub inside : r.next ≤ length s
  pub later : at ≤ r.next
  pub same : log l r.count ≡ noted g₀ (alone side p.position p.index p.field (values_at s at))
  pub past : past_at s at ≡ items_at s r.next

module _ (p : Place) (side : ℕ) (s : Bytes) (at : ℕ) (g₀ : Log) where
  pub resting_start : at ≤ length s → p.field ≤ at + 1 → Resting p side s at g₀ g₀ at p.field
  resting_start h k = record { inside = h; low = k; later = omega arith; same = refl; past = refl }

  module _ (l : List ℤ) (c : Count) (x k : ℕ) (w : Resting p side s at g₀ (log l c) x k) where
    pub resting_long : length l ≡ length g₀.list
    resting_long =
        sym (noted_length (log l c) (alone side p.position p.index k (values_at s x)))
        ∙ ap (λ (f : Log). length f.list) (sym w.same)
        ∙ noted_length g₀ (alone side p.position p.index p.field (values_at s at))

    pub resting_end : (v : Value) (n : ℕ) → ValueIs s x v → v ≡ Value.Over n → Rested p side s at g₀ l (record { next = n; count = c })
    unfolding alone noted
    resting_end v n h q =
        let t = over_ahead s x v n h q in
        record {
          inside = t.inside;
          later = omega (arith, w.later, t.start);
          same = sym (w.same ∙ ap (λ (ls : List Line). noted (log l c) (alone side p.position p.index k ls)) t.values);
          past = w.past ∙ t.past;
        }

    module _ (v : Value) (e n : ℕ) (hv : ValueIs s x v) (qv : v ≡ Value.Line e n) where
      pub rest_small : SmallItem p → length s * 1 < 2 ^ 63 → Small (place p.position 8 p.index k)
      rest_small z h = let t = line_ahead s x v e n hv qv in record { position = z.position; part = omega arith; index = z.index; field = omega (arith, w.low, t.start, t.end, t.inside) }

      pub rest_fits : length s * 1 < 2 ^ 63 → Fits w64 (k + 1)
      rest_fits h = let t = line_ahead s x v e n hv qv in record { fits = omega (arith, w.low, t.start, t.end, t.inside) }

      pub resting_next : (l' : List ℤ) (c' : Count) →
          log l' c' ≡ noted (log l c) (record { at = place p.position 8 p.index k; side = side; left = pos 0; right = pos 0 } ∷ []) →
          Resting p side s at g₀ (log l' c') n (k + 1)
      unfolding alone
      resting_next l' c' q =
          let t = line_ahead s x v e n hv qv in
          record {
            inside = t.inside;
            low = omega (arith, w.low, t.start, t.end);
            later = omega (arith, w.later, t.start, t.end);
            same =
                w.same
                ∙ ap (λ (ls : List Line). noted (log l c) (alone side p.position p.index k ls)) t.values
                ∙ noted_joined (log l c) (record { at = place p.position 8 p.index k; side = side; left = pos 0; right = pos 0 } ∷ []) (alone side p.position p.index (k + 1) (values_at s n))
                ∙ ap (λ (h : Log). noted h (alone side p.position p.index (k + 1) (values_at s n))) (sym q);
            past = w.past ∙ t.past;
          }

pub ruleset resting_laws = (line_less, resting_start, resting_long, resting_end, rest_small, rest_fits, resting_next)

-- ---- To the next item

pub record Passing (s : Bytes) (at x : ℕ) : Type 0 where
  pub inside : x ≤ length s
  pub later : at ≤ x
  pub past : past_at s at ≡ past_at s x

pub record Passed (s : Bytes) (at r : ℕ) : Type 0 where
  pub inside : r ≤ length s
  pub later : at ≤ r
  pub past : past_at s at ≡ items_at s r

module _ (s : Bytes) (at : ℕ) where
  pub passing_start : at ≤ length s → Passing s at at
  passing_start h = record { inside = h; later = omega arith; past = refl }

  module _ (x : ℕ) (w : Passing s at x) (v : Value) (hv : ValueIs s x v) where
    pub passing_next : (e n : ℕ) → v ≡ Value.Line e n → Passing s at n
    passing_next e n q = let t = line_ahead s x v e n hv q in record { inside = t.inside; later = omega (arith, w.later, t.start, t.end); past = w.past ∙ t.past }

    pub passing_end : (n : ℕ) → v ≡ Value.Over n → Passed s at n
    passing_end n q = let t = over_ahead s x v n hv q in record { inside = t.inside; later = omega (arith, w.later, t.start); past = w.past ∙ t.past }

pub ruleset passing_laws = (line_less, passing_start, passing_next, passing_end)

-- ---- Both sides

-- where one side is at its end, the two sides one after the other
pub one_over : (p : Place) (k : ℕ) (xs ys : List Line) → OneOver xs ys → along (lines_of p) k xs ys ≡ alone left_only p.position p.index k xs ++ alone right_only p.position p.index k ys
unfolding alone
one_over p k xs ys (OneOver.left_over e) = rw e (alone_right p k ys)
one_over p k xs ys (OneOver.right_over e) = rw e (alone_left p k xs ∙ sym (append-nil (alone left_only p.position p.index k xs)))

-- all value lines of two items
pub record Valued (p : Place) (a : Bytes) (i : ℕ) (b : Bytes) (j : ℕ) (g₀ : Log) (l : List ℤ) (r : Both) : Type 0 where
  pub left_in : r.left ≤ length a
  pub right_in : r.right ≤ length b
  pub left_up : i ≤ r.left
  pub right_up : j ≤ r.right
  pub same : log l r.count ≡ noted g₀ (along (lines_of p) 1 (values_at a i) (values_at b j))
  pub past_left : past_at a i ≡ items_at a r.left
  pub past_right : past_at b j ≡ items_at b r.right

pub valued : (p : Place) (a : Bytes) (i : ℕ) (b : Bytes) (j : ℕ) (g₀ : Log) (l₁ l₂ l₃ : List ℤ) (w : Both) (u v : Rest) →
    Paired p a i b j g₀ l₁ w →
    Rested (place p.position 8 p.index w.next) 1 a w.left (log l₁ w.count) l₂ u →
    Rested (place p.position 8 p.index w.next) 2 b w.right (log l₂ u.count) l₃ v →
    Valued p a i b j g₀ l₃ (record { left = u.next; right = v.next; next = w.next; count = v.count })
unfolding alone
valued p a i b j g₀ l₁ l₂ l₃ w u v h f g =
    let t = h.pairing in
    record {
      left_in = f.inside;
      right_in = g.inside;
      left_up = omega (arith, t.left_up, f.later);
      right_up = omega (arith, t.right_up, g.later);
      same =
          g.same
          ∙ ap (λ (x : Log). noted x (alone right_only p.position p.index w.next (values_at b w.right))) f.same
          ∙ sym (noted_joined (log l₁ w.count) (alone left_only p.position p.index w.next (values_at a w.left)) (alone right_only p.position p.index w.next (values_at b w.right)))
          ∙ ap (noted (log l₁ w.count)) (sym (one_over p w.next (values_at a w.left) (values_at b w.right) h.over))
          ∙ sym t.same;
      past_left = t.past_left ∙ f.past;
      past_right = t.past_right ∙ g.past;
    }
