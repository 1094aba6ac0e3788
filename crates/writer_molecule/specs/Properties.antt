-- Property lines of one kind, as the code goes: from atom i on, of those whose number is not 0.
use Rattle.std.specs.Prelude.{ℕ, zero, suc, ◌+◌, ◌*◌, ◌≤◌, ◌<◌, ◌≡◌, List, ◌∷◌, map, cond, ltb, get_or, drop, ℤ, pos}
use Rattle.text.specs.Text.{Bytes}
use Rattle.text.specs.Written.{text}
use Rattle.rules.specs.Forms.{Kind, CHG, RAD, ISO, Entry}
use Rattle.rules.specs.Write.{joined, entry_fields, property_text}
use Rattle.rules.specs.Canon.{entries_from, lines_of}
use Rattle.writer_lines.specs.Laid.{Field}
use Rattle.rules.specs.Rows.{rows_of}

-- 0 charges, 1 radicals, 2 isotopes
abbrev pub kind_of : ℕ → Kind
kind_of zero = CHG
kind_of (suc zero) = RAD
kind_of (suc (suc k)) = ISO

-- the number of atom i, which counts from 0, in a flat table
abbrev pub number_at : ℕ → List ℤ → ℕ → ℤ
number_at kind t i = get_or t (16 * i + 5 + kind) (pos 0)

abbrev pub entry_at : ℕ → List ℤ → ℕ → Entry
entry_at kind t i = record { atom = i + 1; number = number_at kind t i }

-- the entries of atom i and those after it, of n atoms
unfoldable pub entries_at : ℕ → ℕ → List ℤ → ℕ → List Entry
entries_at kind n t i = entries_from (kind_of kind) (suc i) (drop i (rows_of 16 n t))

-- one entry after the other, in a line
unfoldable pub entries_text : List Entry → Bytes
entries_text es = joined (entry_fields es)

-- all lines of a kind for these entries
unfoldable pub lines_text : ℕ → List Entry → Bytes
lines_text kind es = text (map property_text (lines_of (kind_of kind) es))

-- the lines of a kind for n atoms
abbrev pub properties_text : ℕ → ℕ → List ℤ → Bytes
properties_text kind n t = lines_text kind (entries_at kind n t 0)

-- r is the first atom from i on that has an entry
pub record Next (kind n : ℕ) (t : List ℤ) (i r : ℕ) : Type 0 where
  pub high : r < n
  pub same : entries_at kind n t i ≡ entry_at kind t r ∷ entries_at kind n t (r + 1)

-- k of those left go into the next line: eight, or all
pub record Eight (left k : ℕ) : Type 0 where
  pub some : 1 ≤ k
  pub most : k ≤ left
  pub number : k ≡ cond (ltb left 8) left 8

-- so many entries from atom i on have been written as these bytes; atom j is the first one not looked at
pub record Entered (kind n : ℕ) (t : List ℤ) (i count width : ℕ) (r₀ r : Bytes) (at : ℕ) (bs : Bytes) (j e : ℕ) : Type 0 where
  pub field : Field r₀ r at width bs e
  pub rest : entries_at kind n t j ≡ drop count (entries_at kind n t i)
