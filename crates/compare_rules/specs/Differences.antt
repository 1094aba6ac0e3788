-- What differs between two files, by their readings alone: a list of differences, each of seven numbers.
use Rattle.std.specs.Prelude.{ℕ, zero, suc, List, [], ◌∷◌, ◌++◌, Bool, false, cond, eqb, ℤ, pos, negsuc}
use Rattle.text.specs.Text.{Line}
use Rattle.text.specs.Find.{same_bytes}
use Rattle.rules.specs.Record.{Headers, Item}
use Rattle.rules.specs.Meaning.{Reading}
use Rattle.compare_rules.specs.declared.Place.{Place}
use Rattle.compare_rules.specs.Along.{Compared, along}

-- ---- A difference

-- in both files, or in one alone
abbrev pub in_both : ℕ
in_both = 0

abbrev pub left_only : ℕ
left_only = 1

abbrev pub right_only : ℕ
right_only = 2

-- the parts of a file; the place is the number of a header line, atom, bond or item, the field that of a row's number or of an item's value line. Numbers count from 1; 0 where there is none.
abbrev pub header_line : ℕ
header_line = 1

abbrev pub atoms_number : ℕ
atoms_number = 2

abbrev pub bonds_number : ℕ
bonds_number = 3

abbrev pub chirality : ℕ
chirality = 4

abbrev pub an_atom : ℕ
an_atom = 5

abbrev pub a_bond : ℕ
a_bond = 6

abbrev pub item_name : ℕ
item_name = 7

abbrev pub value_line : ℕ
value_line = 8

abbrev pub an_item : ℕ
an_item = 9

abbrev pub a_record : ℕ
a_record = 10

-- both figures, where figures differ; 0 for texts, whose place says where they stand
pub record Difference : Type 0 where
  pub at : Place
  pub side : ℕ
  pub left : ℤ
  pub right : ℤ

-- record, part, place, field
abbrev pub place : ℕ → ℕ → ℕ → ℕ → Place
place r part i j = record { position = r; part = part; index = i; field = j }

-- record, part, place, field, side, left, right
abbrev pub row : Difference → List ℤ
row d =
    pos d.at.position ∷ pos d.at.part ∷ pos d.at.index ∷ pos d.at.field ∷
    pos d.side ∷ d.left ∷ d.right ∷ []

-- ---- Two at one place

abbrev pub same_figure : ℤ → ℤ → Bool
same_figure (pos j) (pos k) = eqb j k
same_figure (pos j) (negsuc k) = false
same_figure (negsuc j) (pos k) = false
same_figure (negsuc j) (negsuc k) = eqb j k

unfoldable pub figures : Place → ℤ → ℤ → List Difference
figures at x y = cond (same_figure x y) [] (record { at = at; side = in_both; left = x; right = y } ∷ [])

unfoldable pub texts : Place → Line → Line → List Difference
texts at l k = cond (same_bytes l k) [] (record { at = at; side = in_both; left = pos 0; right = pos 0 } ∷ [])

-- on one side only
abbrev pub only : ℕ → Place → List Difference
only side at = record { at = at; side = side; left = pos 0; right = pos 0 } ∷ []

-- ---- The parts of a record; r is its number

-- field by field
abbrev pub fieldwise : ℕ → ℕ → ℕ → Compared ℤ Difference
fieldwise r part i = record {
  both = λ j x y. figures (place r part i j) x y;
  left = λ j x. [];
  right = λ j y. [];
}

-- row by row, up to the smaller number of rows: counts differ then, and that is listed
abbrev pub rowwise : ℕ → ℕ → Compared (List ℤ) Difference
rowwise r part = record {
  both = λ i t u. along (fieldwise r part i) 1 t u;
  left = λ i t. [];
  right = λ i u. [];
}

-- value lines of item i
abbrev pub linewise : ℕ → ℕ → Compared Line Difference
linewise r i = record {
  both = λ j l k. texts (place r value_line i j) l k;
  left = λ j l. only left_only (place r value_line i j);
  right = λ j k. only right_only (place r value_line i j);
}

-- an item on one side is listed once, and its values are not
abbrev pub itemwise : ℕ → Compared Item Difference
itemwise r = record {
  both = λ i a b. texts (place r item_name i 0) a.name b.name ++ along (linewise r i) 1 a.values b.values;
  left = λ i a. only left_only (place r an_item i 0);
  right = λ i b. only right_only (place r an_item i 0);
}

unfoldable pub headers_apart : ℕ → Headers → Headers → List Difference
headers_apart r g h =
    texts (place r header_line 1 0) g.first h.first
    ++ (texts (place r header_line 2 0) g.second h.second
    ++ texts (place r header_line 3 0) g.third h.third)

unfoldable pub counts_apart : ℕ → Reading → Reading → List Difference
counts_apart r x y =
    figures (place r atoms_number 0 0) (pos x.n) (pos y.n)
    ++ (figures (place r bonds_number 0 0) (pos x.m) (pos y.m)
    ++ figures (place r chirality 0 0) (pos x.chiral) (pos y.chiral))

unfoldable pub records_apart : ℕ → Reading → Reading → List Difference
records_apart r x y =
    headers_apart r x.headers y.headers
    ++ (counts_apart r x y
    ++ (along (rowwise r an_atom) 1 x.atoms y.atoms
    ++ (along (rowwise r a_bond) 1 x.bonds y.bonds
    ++ along (itemwise r) 1 x.items y.items)))

-- ---- Files

abbrev pub recordwise : Compared Reading Difference
recordwise = record {
  both = records_apart;
  left = λ r x. only left_only (place r a_record 0 0);
  right = λ r y. only right_only (place r a_record 0 0);
}

-- what differs between two files, in the order of their records and parts
unfoldable pub differences_of : List Reading → List Reading → List Difference
differences_of xs ys = along recordwise 1 xs ys

-- ---- The other way round

abbrev pub other_side : ℕ → ℕ
other_side zero = zero
other_side (suc zero) = right_only
other_side (suc (suc zero)) = left_only
other_side (suc (suc (suc k))) = suc (suc (suc k))

abbrev pub exchanged : Difference → Difference
exchanged d = record { at = d.at; side = other_side d.side; left = d.right; right = d.left }
