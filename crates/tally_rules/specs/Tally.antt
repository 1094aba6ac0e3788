-- A list of tallies, one for each supplier seen, in rising byte order; and a record added to it.
use Rattle.std.specs.Prelude.{ℕ, ◌+◌, ◌-◌, ◌≤◌, ◌≡◌, List, [], ◌∷◌, ◌++◌, cond, ltb, length, take, replicate}
use Rattle.text.specs.Text.{Bytes, Line, bytes}
use Rattle.text.specs.Find.{same_bytes}
use Rattle.rules.specs.Record.{Item, Raw}
use Rattle.tally_rules.specs.declared.Order.{Order}
use Rattle.tally_rules.specs.declared.Tally.{Tally}

abbrev pub most_suppliers : ℕ
most_suppliers = 64

abbrev pub longest : ℕ
longest = 24

abbrev pub most_records : ℕ
most_records = 999999

-- ---- Byte order: the first byte that differs decides, and a name comes before those that it begins

unfoldable pub order : Bytes → Bytes → Order
order [] [] = Order.Same
order [] (y ∷ ys) = Order.Before
order (x ∷ xs) [] = Order.After
order (x ∷ xs) (y ∷ ys) = cond (ltb x y) Order.Before (cond (ltb y x) Order.After (order xs ys))

-- ---- One record more of a supplier

-- the bytes past a tally's length are not looked at
abbrev pub name_of : Tally → Bytes
name_of t = take t.length t.name

-- a new one has zeros there
abbrev pub fresh : Bytes → Tally
fresh n = record { name = n ++ replicate (longest - length n) 0; length = length n; count = 1 }

abbrev pub one_more : Tally → Tally
one_more t = record { name = t.name; length = t.length; count = t.count + 1 }

-- by how the first tally's name stands to n; `rest` are the others with the record added
abbrev pub added_by : Order → Bytes → Tally → List Tally → List Tally → List Tally
added_by Order.Before n t ts rest = t ∷ rest
added_by Order.Same n t ts rest = one_more t ∷ ts
added_by Order.After n t ts rest = fresh n ∷ t ∷ ts

unfoldable pub added : Bytes → List Tally → List Tally
added n [] = fresh n ∷ []
added n (t ∷ ts) = added_by (order (name_of t) n) n t ts (added n ts)

-- ---- The supplier of a record: the first value line of its first item of that name

abbrev pub supplier_name : Bytes
supplier_name = bytes "SUPPLIER"

-- missing: no such item, or no value line in it
pub data Supplier : Type 0 where
  missing : Supplier
  named : Bytes → Supplier

abbrev pub first_of : List Line → Supplier
first_of [] = Supplier.missing
first_of (l ∷ vs) = Supplier.named l

unfoldable pub supplier_in : List Item → Supplier
supplier_in [] = Supplier.missing
supplier_in (i ∷ is) = cond (same_bytes i.name supplier_name) (first_of i.values) (supplier_in is)

abbrev pub supplier_of : Raw → Supplier
supplier_of x = supplier_in x.items

-- ---- A list that can be added to

-- each name before the next
unfoldable pub Rising : List Tally → Type 0
Rising [] = Unit {0}
Rising (t ∷ []) = Unit {0}
Rising (t ∷ u ∷ ts) = (order (name_of t) (name_of u) ≡ Order.Before) × Rising (u ∷ ts)

-- each name fits its place
unfoldable pub Short : List Tally → Type 0
Short [] = Unit {0}
Short (t ∷ ts) = (t.length ≤ longest) × Short ts

unfoldable pub sum_of : List Tally → ℕ
sum_of [] = 0
sum_of (t ∷ ts) = t.count + sum_of ts
