-- Nothing differs exactly if the readings are the same.
use Rattle.std.specs.Prelude.{ℕ, ◌≡◌, refl, List, [], true, ℤ, pos, negsuc}
use Rattle.std.proofs.Common.{arith, ap, eq-eqb, eqb-true}
use Rattle.text.specs.Text.{Line}
use Rattle.text.specs.Agree.{same_bytes_lem}
use Rattle.rules.specs.Record.{Headers, Item}
use Rattle.rules.specs.Meaning.{Reading}
use Rattle.compare_rules.specs.declared.Place.{Place}
use Rattle.compare_rules.specs.Along.{along}
use Rattle.compare_rules.specs.Differences.{an_atom, a_bond, value_line, item_name, place, same_figure, figures, texts, fieldwise, rowwise, linewise, itemwise}
use Rattle.compare_rules.specs.Differences.{headers_apart, counts_apart, records_apart}
use Rattle.compare_rules.specs.AlongLaws.{along_self}

-- ---- Two at one place

pub same_figure_lem : (x y : ℤ) → same_figure x y ≡ true → x ≡ y
same_figure_lem (pos j) (pos k) h = ap pos (eqb-true j k h)
same_figure_lem (pos j) (negsuc k) h = absurd (let z : ◌≡◌ {A = ℕ} 0 1 = cc in omega arith)
same_figure_lem (negsuc j) (pos k) h = absurd (let z : ◌≡◌ {A = ℕ} 0 1 = cc in omega arith)
same_figure_lem (negsuc j) (negsuc k) h = ap negsuc (eqb-true j k h)

pub figure_self : (x : ℤ) → same_figure x x ≡ true
figure_self (pos k) = eq-eqb k k refl
figure_self (negsuc k) = eq-eqb k k refl

figures_self : (at : Place) (x : ℤ) → figures at x x ≡ []
unfolding figures
figures_self at x = rw (figure_self x)

texts_self : (at : Place) (l : Line) → texts at l l ≡ []
unfolding texts
texts_self at l = rw ((same_bytes_lem l l).1 refl)

-- ---- Rows

rows_self : (r : ℕ) (part : ℕ) (ts : List (List ℤ)) → along (rowwise r part) 1 ts ts ≡ []
rows_self r part ts = along_self (rowwise r part) (λ i t. along_self (fieldwise r part i) (λ j x. figures_self (place r part i j) x) 1 t) 1 ts

-- ---- Items

values_self : (r i : ℕ) (ls : List Line) → along (linewise r i) 1 ls ls ≡ []
values_self r i ls = along_self (linewise r i) (λ j l. texts_self (place r value_line i j) l) 1 ls

items_self : (r : ℕ) (xs : List Item) → along (itemwise r) 1 xs xs ≡ []
items_self r xs = along_self (itemwise r) (λ i a. rw (texts_self (place r item_name i 0) a.name) (values_self r i a.values)) 1 xs

-- ---- Records

headers_self : (r : ℕ) (h : Headers) → headers_apart r h h ≡ []
unfolding headers_apart
headers_self r h = rw (texts_self _ h.first, texts_self _ h.second, texts_self _ h.third)

pub record_self : (r : ℕ) (x : Reading) → records_apart r x x ≡ []
unfolding records_apart counts_apart
record_self r x =
    rw (headers_self r x.headers, figures_self _ (pos x.n), figures_self _ (pos x.m), figures_self _ (pos x.chiral), rows_self r an_atom x.atoms, rows_self r a_bond x.bonds)
    (items_self r x.items)
