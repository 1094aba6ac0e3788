-- Items of two parts, gone through side by side.
use Rattle.std.specs.Prelude.{Result, Ok, Err, ℕ, suc, ◌+◌, ◌-◌, ◌*◌, ◌^◌, ◌≤◌, ◌<◌, ◌≡◌, refl, length, take, drop, ℤ}
use Rattle.std.proofs.Common.{arith, add-one, ◌∙◌, Fits}
use Rattle.std.proofs.Math.Path.{sym, ap, ap₂}
use mathlib.Core.List.{List, [], ◌∷◌, ◌++◌}
use Rattle.std.proofs.Math.IntN.{pos}
use Rattle.std.specs.Int.{w64}
use Rattle.text.specs.Text.{Bytes, Line}
use Rattle.text.specs.Find.{line_at}
use Rattle.text.specs.Cut.{line_cut, line_rest, line_within}
use Rattle.text.specs.declared.LineAt.{LineAt}
use Rattle.rules.specs.Record.{Item}
use Rattle.judge_line.specs.Judge.{item_of}
use Rattle.line_text.specs.Answer.{item_got, item_in}
use Rattle.line_text.specs.Within.{title_order, title_end}
use Rattle.line_text.specs.declared.ItemLine.{ItemLine}
use Rattle.judge_line.specs.declared.Refusal.{Refusal}
use Rattle.compare_rules.specs.declared.Place.{Place}
use Rattle.compare_rules.specs.declared.Count.{Count}
use Rattle.compare_rules.specs.Along.{along}
use Rattle.compare_rules.specs.Differences.{Difference, place, texts, left_only, right_only, linewise, itemwise}
use Rattle.compare_rules.specs.Log.{Log, log, noted, Small}
use Rattle.compare_rules.specs.Noted.{noted_joined, noted_length}
use Rattle.compare_items.specs.declared.Both.{Both}
use Rattle.compare_items.specs.declared.Span.{Span}
use Rattle.compare_items.specs.Part.{name_by, name_on, in_items, items_at, values_at, past_at}
use Rattle.compare_items.specs.Pairing.{SmallItem}
use Rattle.compare_items.specs.Resting.{Passed, Valued}

-- ---- Names

-- where the name of a data header stands
pub record NameIn (l : Line) (r : Span) : Type 0 where
  pub order : r.from ≤ r.to
  pub end : r.to ≤ length l
  pub name : take (r.to - r.from) (drop r.from l) ≡ name_on l

module _ (l : Line) (r : Result ItemLine Refusal) (e : item_got l r ≡ item_of l) where
  pub name_title : item_in l r → (from to : ℕ) → r ≡ Ok (ItemLine.Title from to) → NameIn l (record { from = from; to = to })
  name_title h from to q = record { order = title_order l r from to h q; end = title_end l r from to h q; name = ap name_by (sym (ap (item_got l) q) ∙ e) }

  pub name_close : r ≡ Ok ItemLine.Close → NameIn l (record { from = 0; to = 0 })
  name_close q = record { order = omega arith; end = omega arith; name = ap name_by (sym (ap (item_got l) q) ∙ e) }

  pub name_bad : (f : Refusal) → r ≡ Err f → NameIn l (record { from = 0; to = 0 })
  name_bad f q = record { order = omega arith; end = omega arith; name = ap name_by (sym (ap (item_got l) q) ∙ e) }

pub ruleset name_laws = (name_title, name_close, name_bad)

pub names_are : (p : Place) (l k : Line) (x y : Span) (g g' : Log) → NameIn l x → NameIn k y →
    g' ≡ noted g (texts p (take (x.to - x.from) (drop x.from l)) (take (y.to - y.from) (drop y.from k))) → g' ≡ noted g (texts p (name_on l) (name_on k))
names_are p l k x y g g' h f e = e ∙ ap₂ (λ (a b : Bytes). noted g (texts p a b)) h.name f.name

-- ---- An item at a position

module _ (s : Bytes) (at : ℕ) (o : LineAt) (is : o ≡ line_at s at) where
  pub item_none : o ≡ LineAt.Unfinished → items_at s at ≡ []
  unfolding items_at in_items
  item_none q = rw (line_rest s at (sym is ∙ q))

  pub item_here : (e n : ℕ) → o ≡ LineAt.Line e n → items_at s at ≡ record { name = name_on (take (e - at) (drop at s)); values = values_at s n } ∷ past_at s n
  unfolding items_at values_at past_at in_items
  item_here e n q = rw (line_cut s at e n (sym is ∙ q))

  pub item_start : (e n : ℕ) → o ≡ LineAt.Line e n → at ≤ e
  item_start e n q = (line_within s at e n (sym is ∙ q)).0

  pub item_end : (e n : ℕ) → o ≡ LineAt.Line e n → e ≤ length s
  item_end e n q = let w = line_within s at e n (sym is ∙ q) in omega (arith, w.1, w.2)

  pub item_next : (e n : ℕ) → o ≡ LineAt.Line e n → n ≤ length s
  item_next e n q = (line_within s at e n (sym is ∙ q)).2

  pub item_less : (e n x : ℕ) → o ≡ LineAt.Line e n → n ≤ x → x ≤ length s → length s - x < length s - at
  item_less e n x q h k = let w = line_within s at e n (sym is ∙ q) in omega (arith, w.0, w.1, w.2)

  pub item_low : (e n : ℕ) → o ≡ LineAt.Line e n → at + 1 ≤ n
  item_low e n q = let w = line_within s at e n (sym is ∙ q) in omega (arith, w.0, w.1)

-- ---- Items on one side only

unfoldable pub alone_items : ℕ → ℕ → ℕ → List Item → List Difference
alone_items side r k [] = []
alone_items side r k (i ∷ is) = record { at = place r 9 k 0; side = side; left = pos 0; right = pos 0 } ∷ alone_items side r (k + 1) is

pub items_left : (r k : ℕ) (is : List Item) → along (itemwise r) k is [] ≡ alone_items left_only r k is
unfolding along alone_items
items_left r k [] = refl
items_left r k (i ∷ is) = ap₂ (λ (d : Difference) (ds : List Difference). d ∷ ds) refl (ap (λ (j : ℕ). along (itemwise r) j is []) (sym (add-one k)) ∙ items_left r (k + 1) is)

pub items_right : (r k : ℕ) (is : List Item) → along (itemwise r) k [] is ≡ alone_items right_only r k is
unfolding along alone_items
items_right r k [] = refl
items_right r k (i ∷ is) = ap₂ (λ (d : Difference) (ds : List Difference). d ∷ ds) refl (ap (λ (j : ℕ). along (itemwise r) j [] is) (sym (add-one k)) ∙ items_right r (k + 1) is)

pub record Left (p : Place) (side : ℕ) (s : Bytes) (at : ℕ) (g₀ g : Log) (x k : ℕ) : Type 0 where
  pub inside : x ≤ length s
  pub low : k ≤ x + 1
  pub same : noted g₀ (alone_items side p.position p.index (items_at s at)) ≡ noted g (alone_items side p.position k (items_at s x))

module _ (p : Place) (side : ℕ) (s : Bytes) (at : ℕ) (g₀ : Log) where
  pub left_start : at ≤ length s → p.index ≤ at + 1 → Left p side s at g₀ g₀ at p.index
  left_start h k = record { inside = h; low = k; same = refl }

  module _ (l : List ℤ) (c : Count) (x k : ℕ) (w : Left p side s at g₀ (log l c) x k) where
    pub left_long : length l ≡ length g₀.list
    left_long =
        sym (noted_length (log l c) (alone_items side p.position k (items_at s x)))
        ∙ ap (λ (f : Log). length f.list) (sym w.same)
        ∙ noted_length g₀ (alone_items side p.position p.index (items_at s at))

    module _ (o : LineAt) (is : o ≡ line_at s x) where
      pub left_end : o ≡ LineAt.Unfinished → log l c ≡ noted g₀ (alone_items side p.position p.index (items_at s at))
      unfolding alone_items noted
      left_end q = sym (w.same ∙ ap (λ (xs : List Item). noted (log l c) (alone_items side p.position k xs)) (item_none s x o is q))

      module _ (e n : ℕ) (q : o ≡ LineAt.Line e n) where
        pub left_small : p.position < 2 ^ 63 → length s * 1 < 2 ^ 63 → Small (place p.position 9 k 0)
        left_small h f = let t = line_within s x e n (sym is ∙ q) in record { position = h; part = omega arith; index = omega (arith, w.low, t.0, t.1, t.2); field = omega arith }

        pub left_fits : length s * 1 < 2 ^ 63 → Fits w64 (k + 1)
        left_fits f = let t = line_within s x e n (sym is ∙ q) in record { fits = omega (arith, w.low, t.0, t.1, t.2) }

        pub left_next : (l' : List ℤ) (c' : Count) (z : ℕ) →
            log l' c' ≡ noted (log l c) (record { at = place p.position 9 k 0; side = side; left = pos 0; right = pos 0 } ∷ []) →
            Passed s n z → Left p side s at g₀ (log l' c') z (k + 1)
        unfolding alone_items
        left_next l' c' z h f =
            let t = line_within s x e n (sym is ∙ q) in
            record {
              inside = f.inside;
              low = omega (arith, w.low, t.0, t.1, f.later);
              same =
                  w.same
                  ∙ ap (λ (xs : List Item). noted (log l c) (alone_items side p.position k xs)) (item_here s x o is e n q)
                  ∙ noted_joined (log l c) (record { at = place p.position 9 k 0; side = side; left = pos 0; right = pos 0 } ∷ []) (alone_items side p.position (k + 1) (past_at s n))
                  ∙ ap₂ (λ (v : Log) (xs : List Item). noted v (alone_items side p.position (k + 1) xs)) (sym h) f.past;
            }

        pub left_less : (z : ℕ) → Passed s n z → length s - z < length s - x
        left_less z f = item_less s x o is e n z q f.later f.inside

pub ruleset left_laws = (item_start, item_end, item_next, left_start, left_long, left_end, left_small, left_fits, left_next, left_less)

-- ---- Both sides

pub record Side (r : ℕ) (a b : Bytes) (g₀ g : Log) (x y k : ℕ) : Type 0 where
  pub left_in : x ≤ length a
  pub right_in : y ≤ length b
  pub low_left : k ≤ x + 1
  pub low_right : k ≤ y + 1
  pub same : noted g₀ (along (itemwise r) 1 (items_at a 0) (items_at b 0)) ≡ noted g (along (itemwise r) k (items_at a x) (items_at b y))

module _ (r : ℕ) (a b : Bytes) (g₀ : Log) where
  pub side_start : Side r a b g₀ g₀ 0 0 1
  side_start = record { left_in = omega arith; right_in = omega arith; low_left = omega arith; low_right = omega arith; same = refl }

  module _ (l : List ℤ) (c : Count) (x y k : ℕ) (w : Side r a b g₀ (log l c) x y k) where
    pub side_long : length l ≡ length g₀.list
    side_long =
        sym (noted_length (log l c) (along (itemwise r) k (items_at a x) (items_at b y)))
        ∙ ap (λ (f : Log). length f.list) (sym w.same)
        ∙ noted_length g₀ (along (itemwise r) 1 (items_at a 0) (items_at b 0))

    -- the left part is at its end
    pub side_right : (o : LineAt) (g' : Log) → o ≡ line_at a x → o ≡ LineAt.Unfinished →
        g' ≡ noted (log l c) (alone_items 2 r k (items_at b y)) → g' ≡ noted g₀ (along (itemwise r) 1 (items_at a 0) (items_at b 0))
    side_right o g' is q e =
        e ∙ ap (noted (log l c)) (sym (items_right r k (items_at b y)))
        ∙ ap (λ (xs : List Item). noted (log l c) (along (itemwise r) k xs (items_at b y))) (sym (item_none a x o is q)) ∙ sym w.same

    pub side_left : (o : LineAt) (g' : Log) → o ≡ line_at b y → o ≡ LineAt.Unfinished →
        g' ≡ noted (log l c) (alone_items 1 r k (items_at a x)) → g' ≡ noted g₀ (along (itemwise r) 1 (items_at a 0) (items_at b 0))
    side_left o g' is q e =
        e ∙ ap (noted (log l c)) (sym (items_left r k (items_at a x)))
        ∙ ap (λ (ys : List Item). noted (log l c) (along (itemwise r) k (items_at a x) ys)) (sym (item_none b y o is q)) ∙ sym w.same

    module _ (o : LineAt) (is : o ≡ line_at a x) (e n : ℕ) (q : o ≡ LineAt.Line e n) where
      pub side_small : r < 2 ^ 63 → length a * 1 < 2 ^ 63 → Small (place r 7 k 0)
      side_small h f = let t = line_within a x e n (sym is ∙ q) in record { position = h; part = omega arith; index = omega (arith, w.low_left, t.0, t.1, t.2); field = omega arith }

      pub side_small_item : r < 2 ^ 63 → length a * 1 < 2 ^ 63 → SmallItem (place r 7 k 0)
      side_small_item h f = let t = line_within a x e n (sym is ∙ q) in record { position = h; index = omega (arith, w.low_left, t.0, t.1, t.2) }

      pub side_fits : length a * 1 < 2 ^ 63 → Fits w64 (k + 1)
      side_fits f = let t = line_within a x e n (sym is ∙ q) in record { fits = omega (arith, w.low_left, t.0, t.1, t.2) }

      module _ (o' : LineAt) (is' : o' ≡ line_at b y) (f m : ℕ) (q' : o' ≡ LineAt.Line f m) where
        pub side_next : (l₁ l₂ : List ℤ) (c₁ : Count) (v : Both) →
            log l₁ c₁ ≡ noted (log l c) (texts (place r 7 k 0) (name_on (take (e - x) (drop x a))) (name_on (take (f - y) (drop y b)))) →
            Valued (place r 7 k 0) a n b m (log l₁ c₁) l₂ v →
            Side r a b g₀ (log l₂ v.count) v.left v.right (k + 1)
        unfolding along
        side_next l₁ l₂ c₁ v h z =
            let t = line_within a x e n (sym is ∙ q) in
            let u = line_within b y f m (sym is' ∙ q') in
            let names = texts (place r 7 k 0) (name_on (take (e - x) (drop x a))) (name_on (take (f - y) (drop y b))) in
            let values = along (linewise r k) 1 (values_at a n) (values_at b m) in
            record {
              left_in = z.left_in;
              right_in = z.right_in;
              low_left = omega (arith, w.low_left, t.0, t.1, z.left_up);
              low_right = omega (arith, w.low_right, u.0, u.1, z.right_up);
              same =
                  w.same
                  ∙ ap₂ (λ (xs ys : List Item). noted (log l c) (along (itemwise r) k xs ys)) (item_here a x o is e n q) (item_here b y o' is' f m q')
                  ∙ noted_joined (log l c) (names ++ values) (along (itemwise r) (suc k) (past_at a n) (past_at b m))
                  ∙ ap (λ (s : Log). noted s (along (itemwise r) (suc k) (past_at a n) (past_at b m)))
                  (noted_joined (log l c) names values ∙ ap (λ (s : Log). noted s values) (sym h) ∙ sym z.same)
                  ∙ ap₂ (λ (xs ys : List Item). noted (log l₂ v.count) (along (itemwise r) (suc k) xs ys)) z.past_left z.past_right
                  ∙ ap (λ (j : ℕ). noted (log l₂ v.count) (along (itemwise r) j (items_at a v.left) (items_at b v.right))) (sym (add-one k));
            }

        pub side_less : (l₁ l₂ : List ℤ) (c₁ : Count) (v : Both) → Valued (place r 7 k 0) a n b m (log l₁ c₁) l₂ v → length a - v.left < length a - x
        side_less l₁ l₂ c₁ v z = item_less a x o is e n v.left q z.left_up z.left_in

pub ruleset side_laws = (item_start, item_end, item_next, side_start, side_long, side_right, side_left, side_small, side_small_item, side_fits, side_next, side_less)
