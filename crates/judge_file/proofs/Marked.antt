-- A line's refusal carries a number from 3 to 18 and a column from 1 on; so none is taken for a text cut short.
use Rattle.std.specs.Prelude.{Result, Ok, Err, Option, Some, None, ℕ, zero, suc, ◌+◌, ◌*◌, ◌-◌, ◌≤◌, ◌≡◌, List, ◌∷◌, not, ℤ, eqb, leb}
use Rattle.std.proofs.Common.{subst, arith}
use Rattle.text.specs.Text.{Line, byte}
use Rattle.text.specs.Columns.{column, columns}
use Rattle.text.specs.Find.{ink_column}
use Rattle.text.specs.Agree.{ink_within}
use Rattle.field_numbers.specs.Read.{number_in, signed_in}
use Rattle.field_coordinates.specs.Read.{coordinate_in}
use Rattle.field_symbols.specs.Read.{symbol_in}
use Rattle.rules.specs.Forms.{stereos, centres, Kind, CHG, RAD, ISO, tag}
use Rattle.judge_pairs.specs.Taken.{pair_taken}
use Rattle.judge_line.specs.Got.{Got, bad}
use Rattle.judge_line.specs.Field.{number_got, number_at, signed_got, signed_at, elem, listed_at, elem_signed, signed_listed_at, coordinate_got, coordinate_at, symbol_got}
use Rattle.judge_line.specs.Field.{symbol_at, space_at, spaces_from, has}
use Rattle.judge_line.specs.Judge.{counts_of, atom_of, bond_of, entry_number_at, entries_of, list_of, property_of}
use Rattle.judge_file.specs.Place.{FileKind, Place, first, second, third, counts, atoms, bonds, properties, over, items, values, seen_in, line_of, longest}
use Rattle.judge_file.specs.Place.{turn_of}
use Rattle.judge_file.specs.Marked.{Marked, marked_bad, marked_then, marked_need, marked_cond, marked_none, marked_within, marked_header, marked_item, marked_value, value, refusal}
use Rattle.field_numbers.specs.declared.NumberFault.{NumberFault}

-- ---- Fields

marked_number : (l : Line) (i j least most : ℕ) → 1 ≤ i → Marked (number_at l i j least most)
unfolding number_at
marked_number l i j least most h = go (number_in least most (columns l i j))
  where
    go : (r : Result ℕ NumberFault) → Marked (number_got i r)
    go (Ok k) = value
    go (Err NumberFault.Malformed) = refusal 7 i (omega arith) h
    go (Err NumberFault.Outside) = refusal 8 i (omega arith) h

marked_signed : (l : Line) (i j below above : ℕ) → 1 ≤ i → Marked (signed_at l i j below above)
unfolding signed_at
marked_signed l i j below above h = go (signed_in below above (columns l i j))
  where
    go : (r : Result ℤ NumberFault) → Marked (signed_got i r)
    go (Ok z) = value
    go (Err NumberFault.Malformed) = refusal 7 i (omega arith) h
    go (Err NumberFault.Outside) = refusal 8 i (omega arith) h

marked_listed : (l : Line) (i j most : ℕ) (list : List ℕ) → 1 ≤ i → Marked (listed_at l i j most list)
unfolding listed_at
marked_listed l i j most list h =
    marked_then (marked_number l i j 0 most h) (λ k. marked_need (elem k list) 8 i (omega arith) h value)

marked_signed_listed : (l : Line) (i j below above : ℕ) (list : List ℤ) → 1 ≤ i → Marked (signed_listed_at l i j below above list)
unfolding signed_listed_at
marked_signed_listed l i j below above list h =
    marked_then (marked_signed l i j below above h) (λ z. marked_need (elem_signed z list) 8 i (omega arith) h value)

marked_coordinate : (l : Line) (i j : ℕ) → 1 ≤ i → Marked (coordinate_at l i j)
unfolding coordinate_at
marked_coordinate l i j h = go (coordinate_in (columns l i j))
  where
    go : (r : Option ℤ) → Marked (coordinate_got i r)
    go (Some z) = value
    go None = refusal 7 i (omega arith) h

marked_symbol : (l : Line) (i j : ℕ) → 1 ≤ i → Marked (symbol_at l i j)
unfolding symbol_at
marked_symbol l i j h = go (symbol_in (columns l i j))
  where
    go : (r : Option ℕ) → Marked (symbol_got i r)
    go (Some k) = value
    go None = refusal 9 i (omega arith) h

module _ {A : Type 0} (l : Line) {x : Got A} where
  marked_space : (i : ℕ) → 1 ≤ i → Marked x → Marked (space_at l i x)
  unfolding space_at
  marked_space i h m = marked_need (eqb (column l i) (byte " ")) 15 i (omega arith) h m

  marked_spaces : (i : ℕ) → 1 ≤ i → Marked x → Marked (spaces_from l i x)
  unfolding spaces_from
  marked_spaces i h m = marked_none l 15 (ink_column l i) (omega arith) (λ c e. omega (arith, ink_within l i c e)) m

-- ---- Lines

marked_counts : (limit : ℕ) (l : Line) → Marked (counts_of limit l)
unfolding counts_of
marked_counts limit l =
    marked_then (marked_number l 1 3 0 limit (omega arith)) λ n.
    marked_then (marked_number l 4 6 0 limit (omega arith)) λ m.
    marked_need (leb (2 * m) (n * (n - 1))) 12 4 (omega arith) (omega arith)
    (marked_then (marked_number l 7 9 0 0 (omega arith)) λ lists.
    marked_then (marked_number l 13 15 0 1 (omega arith)) λ chiral.
    marked_then (marked_number l 16 18 0 0 (omega arith)) λ stext.
    marked_need (has l 34 39 " V2000") 6 34 (omega arith) (omega arith) (marked_spaces l 40 (omega arith) value))

marked_atom : (n : ℕ) (l : Line) → Marked (atom_of n l)
unfolding atom_of
marked_atom n l =
    marked_then (marked_coordinate l 1 10 (omega arith)) λ x.
    marked_then (marked_coordinate l 11 20 (omega arith)) λ y.
    marked_then (marked_coordinate l 21 30 (omega arith)) λ z.
    marked_space l 31 (omega arith)
    (marked_then (marked_symbol l 32 34 (omega arith)) λ symbol.
    marked_then (marked_signed l 35 36 3 4 (omega arith)) λ mass.
    marked_then (marked_number l 37 39 0 7 (omega arith)) λ code.
    marked_then (marked_number l 40 42 0 3 (omega arith)) λ parity.
    marked_then (marked_number l 43 45 0 5 (omega arith)) λ hydrogens.
    marked_then (marked_number l 46 48 0 1 (omega arith)) λ care.
    marked_then (marked_number l 49 51 0 15 (omega arith)) λ valence.
    marked_then (marked_number l 52 54 0 1 (omega arith)) λ h0.
    marked_then (marked_number l 61 63 0 n (omega arith)) λ map.
    marked_then (marked_number l 64 66 0 2 (omega arith)) λ inversion.
    marked_then (marked_number l 67 69 0 1 (omega arith)) λ exact.
    marked_spaces l 70 (omega arith) value)

marked_bond : (n : ℕ) (l : Line) → Marked (bond_of n l)
unfolding bond_of
marked_bond n l =
    marked_then (marked_number l 1 3 1 n (omega arith)) λ x.
    marked_then (marked_number l 4 6 1 n (omega arith)) λ y.
    marked_then (marked_number l 7 9 1 8 (omega arith)) λ type.
    marked_then (marked_listed l 10 12 6 (stereos type) (omega arith)) λ stereo.
    marked_then (marked_number l 16 18 0 2 (omega arith)) λ topology.
    marked_then (marked_signed_listed l 19 21 1 13 centres (omega arith)) λ centre.
    marked_spaces l 22 (omega arith) (marked_need (not (eqb x y)) 10 1 (omega arith) (omega arith) value)

marked_entry : (l : Line) (i j : ℕ) (kind : Kind) → 1 ≤ i → Marked (entry_number_at l i j kind)
unfolding entry_number_at
marked_entry l i j CHG h = marked_signed l i j 15 15 h
marked_entry l i j RAD h = marked_then (marked_number l i j 0 3 h) λ k. value
marked_entry l i j ISO h = marked_then (marked_number l i j 1 999 h) λ k. value

marked_entries : (n : ℕ) (kind : Kind) (l : Line) (i k : ℕ) (seen : List ℕ) → 1 ≤ i → Marked (entries_of n kind l i k seen)
unfolding entries_of
marked_entries n kind l i zero seen h = value
marked_entries n kind l i (suc k) seen h =
    marked_space l i h
    (marked_then (marked_number l (i + 1) (i + 3) 1 n (omega arith)) λ atom.
    marked_need (not (elem atom seen)) 14 (i + 1) (omega arith) (omega arith)
    (marked_space l (i + 4) (omega arith)
    (marked_then (marked_entry l (i + 5) (i + 7) kind (omega arith)) λ number.
    marked_then (marked_entries n kind l (i + 8) k (atom ∷ seen) (omega arith)) λ more.
    value)))

marked_list : (n : ℕ) (kind : Kind) (seen : List ℕ) (l : Line) → Marked (list_of n kind seen l)
unfolding list_of
marked_list n kind seen l =
    marked_then (marked_number l 7 9 1 8 (omega arith)) λ k.
    marked_then (marked_entries n kind l 10 k seen (omega arith)) λ entries.
    marked_spaces l (10 + 8 * k) (omega arith) value

marked_property : (n : ℕ) (seen : Kind → List ℕ) (l : Line) → Marked (property_of n seen l)
unfolding property_of
marked_property n seen l =
    marked_cond (has l 1 6 (tag CHG)) (marked_list n CHG (seen CHG) l)
    (marked_cond (has l 1 6 (tag RAD)) (marked_list n RAD (seen RAD) l)
    (marked_cond (has l 1 6 (tag ISO)) (marked_list n ISO (seen ISO) l)
    (marked_cond (has l 1 6 "M  END") (marked_spaces l 7 (omega arith) value) (refusal 13 1 (omega arith) (omega arith)))))

-- ---- Turns

marked_line : (kind : FileKind) (limit : ℕ) (p : Place) (l : Line) → Marked (line_of kind limit p l)
unfolding line_of
marked_line kind limit first l = marked_then (marked_header l) λ h. value
marked_line kind limit (second h₁) l = value
marked_line kind limit (third h₁ h₂) l = value
marked_line kind limit (counts hs) l = marked_then (marked_counts limit l) λ c. value
marked_line kind limit (atoms hs c k xs) l = marked_then (marked_atom c.atoms l) λ a. value
marked_line kind limit (bonds hs c xs k bs) l =
    marked_then (marked_bond c.atoms l) λ b. marked_need (not (pair_taken b bs)) 11 1 (omega arith) (omega arith) value
marked_line kind limit (properties hs c xs bs ps) l = marked_then (marked_property c.atoms (seen_in ps) l) λ p. value
marked_line kind limit (over m) l = refusal 18 1 (omega arith) (omega arith)
marked_line kind limit (items m is) l = marked_then (marked_item l) λ i. value
marked_line kind limit (values m is name vs) l = marked_then (marked_value l) λ v. value

pub marked_turn : (kind : FileKind) (limit : ℕ) (p : Place) (l : Line) → Marked (turn_of kind limit p l)
unfolding turn_of
marked_turn kind limit p l = marked_within l (longest p) (marked_line kind limit p l)

pub refused_marked : (kind : FileKind) (limit : ℕ) (p : Place) (l : Line) (e c : ℕ) → turn_of kind limit p l ≡ bad e c → ((3 ≤ e) × (e ≤ 18)) × (1 ≤ c)
refused_marked kind limit p l e c h = marked_bad (subst Marked h (marked_turn kind limit p l))
