-- The key of a record of the format has twelve bytes.
use Rattle.std.specs.Prelude.{ℕ, zero, suc, ◌-◌, ◌<◌, refl, Bool, replicate}
use Rattle.std.proofs.Common.{arith, length-append}
use Rattle.std.proofs.Math.Path.{◌≡◌, subst}
use mathlib.Core.List.{List, [], ◌∷◌, ◌++◌}
use Rattle.std.proofs.Math.Bool.{true, false, cond}
use Rattle.std.proofs.Math.ListN.{length}
use Rattle.text.specs.Text.{Bytes, Line, Each}
use Rattle.text.specs.First.{each_as}
use Rattle.text.specs.Laws.{each_append}
use Rattle.text.specs.Find.{same_bytes}
use Rattle.rules.specs.Record.{Item, Raw, Values, Items, Record, SDfile, limit}
use Rattle.store_event.specs.Twelve.{AllBytes}
use Rattle.stock_rules.specs.Key.{Part, filled, line_of, part_of, key_by, Terms, record_key}
use Rattle.stock_rules.specs.OneKey.{key_whole}
use Rattle.stock_rules.proofs.OneKey.{key_length}
use Rattle.stock_join.specs.Promise.{TwelveIn}

abbrev Small : Bytes → Type 0
Small t = Each (λ b. b < 256) t

small_at : (t : Bytes) → Small t → AllBytes t
unfolding Each
small_at [] h i = omega arith
small_at (b ∷ t) h zero = h.0
small_at (b ∷ t) h (suc i) = small_at t h.1 i

small_pads : (n pad : ℕ) → pad < 256 → Small (replicate n pad)
unfolding Each
small_pads zero pad h = tt
small_pads (suc n) pad h = (h, small_pads n pad h)

-- ---- The value lines of a record

unfoldable SmallLines : List Line → Type 0
SmallLines [] = Unit {0}
SmallLines (l ∷ ls) = Small l × SmallLines ls

unfoldable SmallItems : List Item → Type 0
SmallItems [] = Unit {0}
SmallItems (i ∷ is) = SmallLines i.values × SmallItems is

values_small : {t vs r : List Line} → Values t vs r → SmallLines vs
unfolding SmallLines
values_small (Values.end h) = tt
values_small (Values.more {l = l} h v) = (each_as l (λ b a. omega (arith, a.1)) h.line.allowed, values_small v)

items_small : {t r : List Line} {is : List Item} → Items t is r → SmallItems is
unfolding SmallItems
items_small (Items.end h) = tt
items_small (Items.more h v p) = (values_small v, items_small p)

-- ---- The parts of a key

module _ (width pad : ℕ) (low : pad < 256) where
  record Sized (k : Bytes) : Type 0 where
    pub count : length k ≡ width
    pub small : Small k

  line_sized : (ls : List Line) (k : Bytes) → SmallLines ls → line_of width pad ls ≡ Part.part k → Sized k
  unfolding SmallLines filled
  line_sized [] k h e = absurd (let z : ◌≡◌ {A = ℕ} 0 1 = cc in omega arith)
  line_sized (l ∷ ls) k h e =
      let w = key_whole width pad l k e in
      record {
        count = key_length width pad l k e;
        small = subst Small w.same (each_append (λ b. b < 256) l (replicate (width - length l) pad) h.0 (small_pads (width - length l) pad low));
      }

  part_sized : (name : Bytes) (is : List Item) (k : Bytes) → SmallItems is → part_of width pad name is ≡ Part.part k → Sized k
  unfolding SmallItems part_of
  part_sized name [] k h e = absurd (let z : ◌≡◌ {A = ℕ} 0 1 = cc in omega arith)
  part_sized name (i ∷ is) k h e = go (same_bytes i.name name) e (part_sized name is k h.1)
    where
      go : (b : Bool) → cond b (line_of width pad i.values) (part_of width pad name is) ≡ Part.part k → (part_of width pad name is ≡ Part.part k → Sized k) → Sized k
      go true q again = line_sized i.values k h.0 q
      go false q again = again q

-- ---- The key

items_twelve : (t : Terms) → t.pad < 256 → (is : List Item) → SmallItems is → TwelveIn (record_key t is)
unfolding record_key
items_twelve t low is h = go (part_of 4 t.pad t.supplier is) refl (part_of 8 t.pad t.lot is) refl
  where
    go : (p : Part) → part_of 4 t.pad t.supplier is ≡ p → (q : Part) → part_of 8 t.pad t.lot is ≡ q → TwelveIn (key_by p q)
    go (Part.no_part f) e q r = tt
    go (Part.part a) e (Part.no_part f) r = tt
    go (Part.part a) e (Part.part b) r =
        let x = part_sized 4 t.pad low t.supplier is a h e in
        let y = part_sized 8 t.pad low t.lot is b h r in
        let n = x.count in
        let m = y.count in
        record { count = omega (arith, length-append a b, n, m); small = small_at (a ++ b) (each_append (λ c. c < 256) a b x.small y.small) }

pub record_twelve : (t : Terms) → t.pad < 256 → {ls more : List Line} {x : Raw} → Record limit ls x more → TwelveIn (record_key t x.items)
record_twelve t low (Record.record_of {is = is} p i) = items_twelve t low is (items_small i)

unfoldable pub AllTwelve : Terms → List Raw → Type 0
AllTwelve t [] = Unit {0}
AllTwelve t (x ∷ xs) = TwelveIn (record_key t x.items) × AllTwelve t xs

pub file_twelve : (t : Terms) → t.pad < 256 → {ls : List Line} {xs : List Raw} → SDfile limit ls xs → AllTwelve t xs
unfolding AllTwelve
file_twelve t low SDfile.none = tt
file_twelve t low (SDfile.more r f) = (record_twelve t low r, file_twelve t low f)
