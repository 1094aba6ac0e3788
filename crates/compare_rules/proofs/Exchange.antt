-- Comparing the other way round gives the same list with sides exchanged.
use Rattle.std.specs.Prelude.{ℕ, zero, suc, ◌≡◌, refl, List, [], ◌∷◌, map, Bool, true, false, cond, ℤ, pos}
use Rattle.std.proofs.Common.{ap}
use Rattle.text.specs.Text.{Line}
use Rattle.text.specs.Find.{same_bytes}
use Rattle.rules.specs.Record.{Headers, Item}
use Rattle.rules.specs.Meaning.{Reading}
use Rattle.compare_rules.specs.declared.Place.{Place}
use Rattle.compare_rules.specs.Along.{along}
use Rattle.compare_rules.specs.Differences.{an_atom, a_bond, value_line, item_name, Difference, place, same_figure, figures, texts, fieldwise, rowwise, linewise, itemwise}
use Rattle.compare_rules.specs.Differences.{headers_apart, counts_apart, records_apart, recordwise, differences_of, other_side, exchanged}
use Rattle.compare_rules.specs.AlongLaws.{map_joined, Turns, along_turned}
use Rattle.compare_rules.specs.Exchange.{figure_turned, bytes_turned}

-- ---- Tests do not mind the order

one_turned : (t : Bool) (d e : Difference) → e ≡ exchanged d → cond t [] (e ∷ []) ≡ map exchanged (cond t [] (d ∷ []))
one_turned true d e h = refl
one_turned false d e h = ap (λ v. v ∷ []) h

figures_turned : (at : Place) (x y : ℤ) → figures at y x ≡ map exchanged (figures at x y)
unfolding figures
figures_turned at x y = rw (figure_turned y x) (one_turned (same_figure x y) _ _ refl)

texts_turned : (at : Place) (l k : Line) → texts at k l ≡ map exchanged (texts at l k)
unfolding texts
texts_turned at l k = rw (bytes_turned k l) (one_turned (same_bytes l k) _ _ refl)

-- ---- The parts of a record

fields_turn : (r : ℕ) (part : ℕ) (i : ℕ) → Turns exchanged (fieldwise r part i)
fields_turn r part i = record { both = λ j x y. figures_turned (place r part i j) x y; left = λ j x. refl; right = λ j x. refl }

rows_turn : (r : ℕ) (part : ℕ) → Turns exchanged (rowwise r part)
rows_turn r part = record { both = λ i t u. along_turned exchanged (fieldwise r part i) (fields_turn r part i) 1 t u; left = λ i t. refl; right = λ i t. refl }

lines_turn : (r i : ℕ) → Turns exchanged (linewise r i)
lines_turn r i = record { both = λ j l k. texts_turned (place r value_line i j) l k; left = λ j l. refl; right = λ j l. refl }

items_turn : (r : ℕ) → Turns exchanged (itemwise r)
items_turn r = record { both = item; left = λ i a. refl; right = λ i a. refl }
  where
    item : (i : ℕ) (a b : Item) → (itemwise r).both i b a ≡ map exchanged ((itemwise r).both i a b)
    item i a b =
        rw (
          map_joined exchanged (texts (place r item_name i 0) a.name b.name) (along (linewise r i) 1 a.values b.values),
          texts_turned (place r item_name i 0) a.name b.name,
          along_turned exchanged (linewise r i) (lines_turn r i) 1 a.values b.values,
        )

headers_turned : (r : ℕ) (g h : Headers) → headers_apart r h g ≡ map exchanged (headers_apart r g h)
unfolding headers_apart
headers_turned r g h =
    simp map_joined (rw (texts_turned _ g.first h.first, texts_turned _ g.second h.second, texts_turned _ g.third h.third))

counts_turned : (r : ℕ) (x y : Reading) → counts_apart r y x ≡ map exchanged (counts_apart r x y)
unfolding counts_apart
counts_turned r x y =
    simp map_joined (rw (figures_turned _ (pos x.n) (pos y.n), figures_turned _ (pos x.m) (pos y.m), figures_turned _ (pos x.chiral) (pos y.chiral)))

pub record_turned : (r : ℕ) (x y : Reading) → records_apart r y x ≡ map exchanged (records_apart r x y)
unfolding records_apart
record_turned r x y =
    simp map_joined (rw (
      headers_turned r x.headers y.headers,
      counts_turned r x y,
      along_turned exchanged (rowwise r an_atom) (rows_turn r an_atom) 1 x.atoms y.atoms,
      along_turned exchanged (rowwise r a_bond) (rows_turn r a_bond) 1 x.bonds y.bonds,
      along_turned exchanged (itemwise r) (items_turn r) 1 x.items y.items,
    ))

-- ---- Files

-- of any two lists of readings
pub exchange : (xs ys : List Reading) → differences_of ys xs ≡ map exchanged (differences_of xs ys)
unfolding differences_of
exchange xs ys = along_turned exchanged recordwise (record { both = record_turned; left = λ r x. refl; right = λ r x. refl }) 1 xs ys

side_twice : (s : ℕ) → other_side (other_side s) ≡ s
side_twice zero = refl
side_twice (suc zero) = refl
side_twice (suc (suc zero)) = refl
side_twice (suc (suc (suc k))) = refl

-- and back
pub exchanged_twice : (d : Difference) → exchanged (exchanged d) ≡ d
exchanged_twice d = ap (λ (s : ℕ). record { at = d.at; side = s; left = d.left; right = d.right }) (side_twice d.side)
