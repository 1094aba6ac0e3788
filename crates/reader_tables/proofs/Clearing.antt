-- A table while a stretch of it is cleared.
use Prim.Native.Nat.{ℕ, zero, suc, ◌+◌, ◌-◌, ◌*◌, ◌/◌, ◌≤◌, ◌<◌}
use native.Mathlib.Omega.{arith}
use mathlib.Core.Path.{◌≡◌, refl, sym, ap, ◌∙◌, subst}
use mathlib.Core.Bool.{Bool, true, false}
use mathlib.Core.List.{List, [], ◌∷◌, ◌++◌}
use lib.ListN.{length, get_or, take, drop, replicate, length-append, length-replicate, length-drop}
use lib.Dec.{ltb}
use lib.Seq.{length-take-le, get_or-append-add, get_or-take, get_or-drop, ext_get_or}
use borrow.Author.Tests.{ltb-true, ltb-false}
use lib.IntN.{ℤ, pos}
use Rattle.reader_tables.specs.Filled.{cleared}

-- ---- Place by place

-- zeros from a to before b, and all else as it was
record Emptied (t₀ t : List ℤ) (a b : ℕ) : Type 0 where
  size : length t ≡ length t₀
  before : (k : ℕ) → k < a → get_or t k (pos 0) ≡ get_or t₀ k (pos 0)
  inside : (k : ℕ) → a ≤ k → k < b → get_or t k (pos 0) ≡ pos 0
  after : (k : ℕ) → b ≤ k → get_or t k (pos 0) ≡ get_or t₀ k (pos 0)

zeros_at : (n k : ℕ) → get_or (replicate n (pos 0)) k (pos 0) ≡ pos 0
zeros_at zero zero = refl
zeros_at zero (suc k) = refl
zeros_at (suc n) zero = refl
zeros_at (suc n) (suc k) = zeros_at n k

front_at : (xs ys : List ℤ) (k : ℕ) → k < length xs → get_or (xs ++ ys) k (pos 0) ≡ get_or xs k (pos 0)
front_at [] ys k h = absurd (omega arith)
front_at (x ∷ xs) ys zero h = refl
front_at (x ∷ xs) ys (suc k) h = front_at xs ys k (omega arith)

back_at : (xs ys : List ℤ) (k n : ℕ) → k ≡ length xs + n → get_or (xs ++ ys) k (pos 0) ≡ get_or ys n (pos 0)
back_at xs ys k n e = ap (λ (i : ℕ). get_or (xs ++ ys) i (pos 0)) e ∙ get_or-append-add xs ys n (pos 0)

module _ (t : List ℤ) (a b : ℕ) (low : a ≤ b) (high : b ≤ length t) where
  abbrev zeros : List ℤ
  zeros = replicate (b - a) (pos 0)

  a_long : length (take a t) ≡ a
  a_long = length-take-le a t (omega arith)

  emptied : Emptied t (cleared t a b) a b
  emptied =
      record {
        size =
            length-append (take a t) (zeros ++ drop b t)
            ∙ omega (arith, a_long, length-append zeros (drop b t), length-replicate (b - a) (pos 0), length-drop b t);
        before = λ k h. front_at (take a t) (zeros ++ drop b t) k (omega (arith, a_long)) ∙ get_or-take a t k (pos 0) h;
        inside = λ k h j.
            back_at (take a t) (zeros ++ drop b t) k (k - a) (omega (arith, a_long))
            ∙ front_at zeros (drop b t) (k - a) (omega (arith, length-replicate (b - a) (pos 0)))
            ∙ zeros_at (b - a) (k - a);
        after = λ k h.
            let e : b + (k - b) ≡ k = omega arith in
            back_at (take a t) (zeros ++ drop b t) k (k - a) (omega (arith, a_long))
            ∙ back_at zeros (drop b t) (k - a) (k - b) (omega (arith, length-replicate (b - a) (pos 0)))
            ∙ get_or-drop b t (k - b) (pos 0)
            ∙ ap (λ (i : ℕ). get_or t i (pos 0)) e;
      }

  emptied_is : (t' : List ℤ) → Emptied t t' a b → t' ≡ cleared t a b
  emptied_is t' g = ext_get_or (pos 0) t' (cleared t a b) (g.size ∙ sym emptied.size) (λ k h. go k (ltb k a) refl (ltb k b) refl)
    where
      go : (k : ℕ) (x : Bool) → ltb k a ≡ x → (y : Bool) → ltb k b ≡ y → get_or t' k (pos 0) ≡ get_or (cleared t a b) k (pos 0)
      go k true e y f = let h = ltb-true k a e in g.before k h ∙ sym (emptied.before k h)
      go k false e true f =
          let h = ltb-false k a e in
          let j = ltb-true k b f in
          g.inside k h j ∙ sym (emptied.inside k h j)
      go k false e false f = let h = ltb-false k b f in g.after k h ∙ sym (emptied.after k h)

-- ---- Both halves

-- so many numbers at the front of each half are zero, in blocks of 64
pub record Halves (t₀ t : List ℤ) (from to half i : ℕ) : Type 0 where
  pub low : from + half + half ≤ to
  pub high : to ≤ length t₀
  pub blocks : (q : ℕ) × (half ≡ 64 * q)
  pub done : (j : ℕ) × (i ≡ 64 * j)
  pub inside : i ≤ half
  pub size : length t ≡ length t₀
  pub first : (k : ℕ) → from ≤ k → k < from + i → get_or t k (pos 0) ≡ pos 0
  pub second : (k : ℕ) → from + half ≤ k → k < from + half + i → get_or t k (pos 0) ≡ pos 0
  pub before : (k : ℕ) → k < from → get_or t k (pos 0) ≡ get_or t₀ k (pos 0)
  pub between : (k : ℕ) → from + i ≤ k → k < from + half → get_or t k (pos 0) ≡ get_or t₀ k (pos 0)
  pub after : (k : ℕ) → from + half + i ≤ k → get_or t k (pos 0) ≡ get_or t₀ k (pos 0)

pub halves_start : (t : List ℤ) (from to : ℕ) → from ≤ to → to ≤ length t → Halves t t from to (64 * ((to - from) / 128)) (64 * 0)
halves_start t from to h k =
    let q = (to - from) / 128 in
    let d : q * 128 ≤ to - from = omega arith in
    record {
      low = omega (arith, d);
      high = k;
      blocks = (q, omega arith);
      done = (0, omega arith);
      inside = omega arith;
      size = refl;
      first = λ n a b. absurd (omega arith);
      second = λ n a b. absurd (omega arith);
      before = λ n a. refl;
      between = λ n a b. refl;
      after = λ n a. refl;
    }

module _ (t₀ t : List ℤ) (from to half i : ℕ) (g : Halves t₀ t from to half i) where
  more : i < half → i + 64 ≤ half
  more h = omega (arith, g.blocks.1, g.done.1)

  pub halves_first : i < half → from + i + 64 ≤ length t
  halves_first h = omega (arith, more h, g.size, g.low, g.high)

  pub halves_size : length t ≡ length t₀
  halves_size = g.size

  pub halves_rest : from + half + half ≤ to
  halves_rest = g.low

  pub halves_room : to ≤ length t
  halves_room = omega (arith, g.size, g.high)

  pub halves_end : half ≤ i → (t' : List ℤ) → t' ≡ cleared t (from + half + half) to → t' ≡ cleared t₀ from to
  halves_end h t' e =
      let same : i ≡ half = omega (arith, g.inside) in
      let w : Emptied t t' (from + half + half) to = subst (λ (x : List ℤ). Emptied t x (from + half + half) to) (sym e) (emptied t (from + half + half) to g.low halves_room) in
      emptied_is t₀ from to (omega (arith, g.low)) g.high t'
      (record {
        size = w.size ∙ g.size;
        before = λ k a. w.before k (omega arith) ∙ g.before k a;
        inside = λ k a b. go k a b (ltb k (from + half)) refl (ltb k (from + half + half)) refl w same;
        after = λ k a. w.after k a ∙ g.after k (omega (arith, g.low));
      })
    where
      go : (k : ℕ) → from ≤ k → k < to → (x : Bool) → ltb k (from + half) ≡ x → (y : Bool) → ltb k (from + half + half) ≡ y →
          Emptied t t' (from + half + half) to → i ≡ half → get_or t' k (pos 0) ≡ pos 0
      go k a b true p y q w same = let c = ltb-true k (from + half) p in w.before k (omega arith) ∙ g.first k a (omega arith)
      go k a b false p true q w same =
          let c = ltb-false k (from + half) p in
          let d = ltb-true k (from + half + half) q in
          w.before k d ∙ g.second k c (omega arith)
      go k a b false p false q w same = w.inside k (ltb-false k (from + half + half) q) b

  module _ (h : i < half) (t₁ : List ℤ) (e₁ : t₁ ≡ cleared t (from + i) (from + i + 64)) where
    one : Emptied t t₁ (from + i) (from + i + 64)
    one = subst (λ (x : List ℤ). Emptied t x (from + i) (from + i + 64)) (sym e₁) (emptied t (from + i) (from + i + 64) (omega arith) (halves_first h))

    pub halves_second : from + half + i + 64 ≤ length t₁
    halves_second = omega (arith, one.size, more h, g.size, g.low, g.high)

    pub halves_next : (t₂ : List ℤ) → t₂ ≡ cleared t₁ (from + half + i) (from + half + i + 64) → Halves t₀ t₂ from to half (i + 64)
    halves_next t₂ e₂ =
        let m = more h in
        let a = one in
        let b : Emptied t₁ t₂ (from + half + i) (from + half + i + 64) =
        subst (λ (x : List ℤ). Emptied t₁ x (from + half + i) (from + half + i + 64)) (sym e₂) (emptied t₁ (from + half + i) (from + half + i + 64) (omega arith) halves_second) in
        record {
          low = g.low;
          high = g.high;
          blocks = g.blocks;
          done = (g.done.0 + 1, omega (arith, g.done.1));
          inside = m;
          size = b.size ∙ a.size ∙ g.size;
          first = λ k p q. b.before k (omega arith) ∙ low_half k p q a m;
          second = λ k p q. high_half k p q a b m;
          before = λ k p. b.before k (omega arith) ∙ a.before k (omega arith) ∙ g.before k p;
          between = λ k p q. b.before k (omega arith) ∙ a.after k (omega arith) ∙ g.between k (omega arith) q;
          after = λ k p. b.after k (omega arith) ∙ a.after k (omega arith) ∙ g.after k (omega arith);
        }
      where
        low_half : (k : ℕ) → from ≤ k → k < from + (i + 64) → Emptied t t₁ (from + i) (from + i + 64) → i + 64 ≤ half → get_or t₁ k (pos 0) ≡ pos 0
        low_half k p q a m = go (ltb k (from + i)) refl
          where
            go : (x : Bool) → ltb k (from + i) ≡ x → get_or t₁ k (pos 0) ≡ pos 0
            go true e = let c = ltb-true k (from + i) e in a.before k c ∙ g.first k p c
            go false e = a.inside k (ltb-false k (from + i) e) (omega arith)

        high_half : (k : ℕ) → from + half ≤ k → k < from + half + (i + 64) → Emptied t t₁ (from + i) (from + i + 64) → Emptied t₁ t₂ (from + half + i) (from + half + i + 64) → i + 64 ≤ half →
            get_or t₂ k (pos 0) ≡ pos 0
        high_half k p q a b m = go (ltb k (from + half + i)) refl
          where
            go : (x : Bool) → ltb k (from + half + i) ≡ x → get_or t₂ k (pos 0) ≡ pos 0
            go true e = let c = ltb-true k (from + half + i) e in b.before k c ∙ a.after k (omega arith) ∙ g.second k p c
            go false e = b.inside k (ltb-false k (from + half + i) e) (omega arith)

pub ruleset halves_laws = (halves_start, halves_first, halves_size, halves_rest, halves_room, halves_end, halves_second, halves_next)
