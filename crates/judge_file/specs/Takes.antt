-- Which lines the judge takes at each place, said by the forms of lines, and that its turns are these.
use Rattle.std.specs.Prelude.{ℕ, List, [], ◌∷◌, ◌++◌}
use Rattle.text.specs.Text.{Bytes, Line}
use Rattle.rules.specs.Forms.{FirstHeaderLine, HeaderLine, Counts, CountsLine, Atom, AtomLine, Bond, BondLine}
use Rattle.rules.specs.Forms.{Property, PropertyLine, EndLine, DataHeader, BlankLine, ValueLine, RecordEnd}
use Rattle.rules.specs.Record.{Headers, Molecule, Item, NewPair}
use Rattle.judge_line.specs.Agree.{NewEntries}
use Rattle.judge_file.specs.Place.{FileKind, seen_in, to_atoms, to_bonds, after_end}
use Rattle.judge_file.specs.Place.{Place, first, second, third, counts, atoms, bonds, properties, items, values, Turn, next, done}

-- at the place the line is taken, with this turn
pub data Takes (kind : FileKind) (limit : ℕ) : Place → Line → Turn → Type 0 where
  first_header : {l : Line} → FirstHeaderLine l → Takes kind limit first l (next (second l))
  second_header : {h₁ l : Line} → HeaderLine l → Takes kind limit (second h₁) l (next (third h₁ l))
  third_header : {h₁ h₂ l : Line} → HeaderLine l → Takes kind limit (third h₁ h₂) l (next (counts (record { first = h₁; second = h₂; third = l })))
  counts_line : {hs : Headers} {l : Line} {c : Counts} → CountsLine limit l c → Takes kind limit (counts hs) l (next (to_atoms hs c c.atoms []))
  atom_line_lem : {hs : Headers} {c : Counts} {k : ℕ} {xs : List Atom} {l : Line} {a : Atom} →
      AtomLine c.atoms l a → Takes kind limit (atoms hs c k xs) l (next (to_atoms hs c k (xs ++ (a ∷ []))))
  bond_line_lem : {hs : Headers} {c : Counts} {xs : List Atom} {k : ℕ} {bs : List Bond} {l : Line} {b : Bond} →
      BondLine c.atoms l b → NewPair b bs → Takes kind limit (bonds hs c xs k bs) l (next (to_bonds hs c xs k (bs ++ (b ∷ []))))
  property_line : {hs : Headers} {c : Counts} {xs : List Atom} {bs : List Bond} {ps : List Property} {l : Line} {p : Property} →
      PropertyLine c.atoms l p → NewEntries (seen_in ps p.kind) p.entries →
      Takes kind limit (properties hs c xs bs ps) l (next (properties hs c xs bs (ps ++ (p ∷ []))))
  end_line : {hs : Headers} {c : Counts} {xs : List Atom} {bs : List Bond} {ps : List Property} {l : Line} → EndLine l →
      Takes kind limit (properties hs c xs bs ps) l
      (next (after_end kind (record { headers = hs; counts = c; atoms = xs; bonds = bs; properties = ps })))
  data_header : {m : Molecule} {is : List Item} {l : Line} {name : Bytes} → DataHeader l name → Takes kind limit (items m is) l (next (values m is name []))
  record_end : {m : Molecule} {is : List Item} {l : Line} → RecordEnd l → Takes kind limit (items m is) l (done (record { molecule = m; items = is }))
  value_line : {m : Molecule} {is : List Item} {name : Bytes} {vs : List Line} {l : Line} →
      ValueLine l → Takes kind limit (values m is name vs) l (next (values m is name (vs ++ (l ∷ []))))
  blank_line : {m : Molecule} {is : List Item} {name : Bytes} {vs : List Line} {l : Line} →
      BlankLine l → Takes kind limit (values m is name vs) l (next (items m (is ++ (record { name = name; values = vs } ∷ []))))
