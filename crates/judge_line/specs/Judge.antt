-- The lines of a record, judged from left to right: what each stands for, or its first refusal. Length and bytes (3 and 4) come before, at each place.
use Rattle.std.specs.Prelude.{ℕ, zero, suc, ◌+◌, ◌*◌, ◌-◌, List, [], ◌∷◌, ◌++◌, map, Bool, true, false, cond, ◌&&◌, ◌||◌, not, eqb, leb, length, drop, ℤ, pos}
use Rattle.text.specs.Text.{Bytes, Line, bytes, byte}
use Rattle.text.specs.Find.{is_blank}
use Rattle.field_numbers.specs.Read.{after_spaces}
use Rattle.rules.specs.Forms.{Counts, Atom, Bond, stereos, centres, Kind, CHG, RAD, ISO, tag, Entry, Property}
use Rattle.judge_line.specs.Got.{Got, got, bad, then, need}
use Rattle.judge_line.specs.Field.{number_at, signed_at, elem, listed_at, signed_listed_at, coordinate_at, symbol_at, space_at, spaces_from, has}

-- ---- 1. Header lines

unfoldable pub begins : Bytes → Bytes → Bool
begins [] l = true
begins (t ∷ ts) [] = false
begins (t ∷ ts) (b ∷ l) = eqb t b && begins ts l

unfoldable pub contains : Bytes → Line → Bool
contains text [] = begins text []
contains text (b ∷ l) = begins text (b ∷ l) || contains text l

abbrev pub reserved : Line → Bool
reserved l = contains (bytes "$$$$") l || (contains (bytes "$MDL") l || (contains (bytes "$RXN") l || contains (bytes "$RDFILE") l))

-- the first header line
unfoldable pub first_header_of : Line → Got Line
first_header_of l = need (not (reserved l)) 5 1 (got l)

-- ---- 2. The counts line

-- aaabbblllfffcccsssxxxrrrpppiiimmmvvvvvv
unfoldable pub counts_of : ℕ → Line → Got Counts
counts_of limit l =
    then (number_at l 1 3 0 limit) λ n.
    then (number_at l 4 6 0 limit) λ m.
    need (leb (2 * m) (n * (n - 1))) 12 4
    (then (number_at l 7 9 0 0) λ lists.
    then (number_at l 13 15 0 1) λ chiral.
    then (number_at l 16 18 0 0) λ stext.
    need (has l 34 39 " V2000") 6 34
    (spaces_from l 40
    (got (record { atoms = n; bonds = m; chiral = chiral }))))

-- ---- 3. Atom lines

-- xxxxx.xxxxyyyyy.yyyyzzzzz.zzzz aaaddcccssshhhbbbvvvHHHrrriiimmmnnneee
-- in a record of n atoms
unfoldable pub atom_of : ℕ → Line → Got Atom
atom_of n l =
    then (coordinate_at l 1 10) λ x.
    then (coordinate_at l 11 20) λ y.
    then (coordinate_at l 21 30) λ z.
    space_at l 31
    (then (symbol_at l 32 34) λ symbol.
    then (signed_at l 35 36 3 4) λ mass.
    then (number_at l 37 39 0 7) λ code.
    then (number_at l 40 42 0 3) λ parity.
    then (number_at l 43 45 0 5) λ hydrogens.
    then (number_at l 46 48 0 1) λ care.
    then (number_at l 49 51 0 15) λ valence.
    then (number_at l 52 54 0 1) λ h0.
    then (number_at l 61 63 0 n) λ map.
    then (number_at l 64 66 0 2) λ inversion.
    then (number_at l 67 69 0 1) λ exact.
    spaces_from l 70
    (got
    (record {
      x = x;
      y = y;
      z = z;
      symbol = symbol;
      mass_difference = mass;
      charge_code = code;
      parity = parity;
      hydrogen_count = hydrogens;
      stereo_care = care;
      valence = valence;
      H0 = h0;
      atom_map = map;
      inversion = inversion;
      exact_change = exact;
    })))

-- ---- 4. Bond lines; that a pair is bonded twice shows only beside the bonds before

-- 111222tttsssxxxrrrccc
unfoldable pub bond_of : ℕ → Line → Got Bond
bond_of n l =
    then (number_at l 1 3 1 n) λ first.
    then (number_at l 4 6 1 n) λ second.
    then (number_at l 7 9 1 8) λ type.
    then (listed_at l 10 12 6 (stereos type)) λ stereo.
    then (number_at l 16 18 0 2) λ topology.
    then (signed_listed_at l 19 21 1 13 centres) λ centre.
    spaces_from l 22
    (need (not (eqb first second)) 10 1
    (got (record { first = first; second = second; type = type; stereo = stereo; topology = topology; centre = centre })))

-- ---- 5. Property lines

pub data PropertyOrEnd : Type 0 where
  property : Property → PropertyOrEnd
  last : PropertyOrEnd

-- charge is -15 to 15, radical 0 to 3, isotope 1 to 999
unfoldable pub entry_number_at : Line → ℕ → ℕ → Kind → Got ℤ
entry_number_at l i j CHG = signed_at l i j 15 15
entry_number_at l i j RAD = then (number_at l i j 0 3) λ k. got (pos k)
entry_number_at l i j ISO = then (number_at l i j 1 999) λ k. got (pos k)

-- so many entries from column i on, of atoms that are none of those seen
unfoldable pub entries_of : ℕ → Kind → Line → ℕ → ℕ → List ℕ → Got (List Entry)
entries_of n kind l i zero seen = got []
entries_of n kind l i (suc k) seen =
    space_at l i
    (then (number_at l (i + 1) (i + 3) 1 n) λ atom.
    need (not (elem atom seen)) 14 (i + 1)
    (space_at l (i + 4)
    (then (entry_number_at l (i + 5) (i + 7) kind) λ number.
    then (entries_of n kind l (i + 8) k (atom ∷ seen)) λ more.
    got (record { atom = atom; number = number } ∷ more))))

-- M  CHGnn8 aaa vvv ...
unfoldable pub list_of : ℕ → Kind → List ℕ → Line → Got PropertyOrEnd
list_of n kind seen l =
    then (number_at l 7 9 1 8) λ k.
    then (entries_of n kind l 10 k seen) λ entries.
    spaces_from l (10 + 8 * k)
    (got (property (record { kind = kind; entries = entries })))

-- a property line or `M  END`; `seen` gives the atoms that lines of a kind have listed before
unfoldable pub property_of : ℕ → (Kind → List ℕ) → Line → Got PropertyOrEnd
property_of n seen l =
    cond (has l 1 6 (tag CHG)) (list_of n CHG (seen CHG) l)
    (cond (has l 1 6 (tag RAD)) (list_of n RAD (seen RAD) l)
    (cond (has l 1 6 (tag ISO)) (list_of n ISO (seen ISO) l)
    (cond (has l 1 6 "M  END") (spaces_from l 7 (got last))
    (bad 13 1))))

-- ---- 6. Data items

-- a data header's name, or none
pub data HeaderRead : Type 0 where
  named : Bytes → HeaderRead
  none : HeaderRead

-- the name's bytes so far, and what follows them
unfoldable pub name_on : Bytes → Bytes → HeaderRead
name_on name [] = none
name_on name (b ∷ bs) =
    cond (eqb b (byte "<")) none
    (cond (eqb b (byte ">")) (cond (leb 1 (length name) && (leb (length name) 30 && is_blank bs)) (named name) none)
    (name_on (name ++ (b ∷ [])) bs))

-- after `>` and a space: more spaces, then `<`
unfoldable pub opened : Bytes → HeaderRead
opened [] = none
opened (b ∷ bs) = cond (eqb b (byte "<")) (name_on [] bs) none

unfoldable pub spaced : Bytes → HeaderRead
spaced [] = none
spaced (b ∷ bs) = cond (eqb b (byte " ")) (opened (after_spaces bs)) none

unfoldable pub arrowed : Line → HeaderRead
arrowed [] = none
arrowed (b ∷ bs) = cond (eqb b (byte ">")) (spaced bs) none

-- a data header: `>`, spaces, `<`, the name, `>`, spaces, in 80 columns at most
unfoldable pub header_of : Line → HeaderRead
header_of l = cond (leb (length l) 80) (arrowed l) none

pub data ItemOrEnd : Type 0 where
  title : Bytes → ItemOrEnd
  close : ItemOrEnd

abbrev pub title_got : HeaderRead → Got ItemOrEnd
title_got (named name) = got (title name)
title_got none = bad 16 1

-- a `$$$$` line: only spaces after it
abbrev pub is_close : Line → Bool
is_close l = begins (bytes "$$$$") l && is_blank (drop 4 l)

-- where a data header or `$$$$` must stand
unfoldable pub item_of : Line → Got ItemOrEnd
item_of l = cond (is_close l) (got close) (title_got (header_of l))

pub data ValueOrBlank : Type 0 where
  value : ValueOrBlank
  blank : ValueOrBlank

abbrev pub not_header : HeaderRead → Got ValueOrBlank
not_header (named name) = bad 17 1
not_header none = got value

-- where a value line or the blank line after the values must stand
unfoldable pub value_of : Line → Got ValueOrBlank
value_of l = cond (is_blank l) (got blank) (cond (begins (bytes "$$$$") l) (bad 17 1) (not_header (header_of l)))
