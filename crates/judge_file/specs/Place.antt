-- The judge. At every line it is in one place of the record, which holds what has been read so far and how many lines are owed there;
-- one turn takes the place and a line and gives the next place, a finished record, or a refusal.
use Rattle.std.specs.Prelude.{ℕ, zero, suc, List, [], ◌∷◌, ◌++◌, map, not}
use Rattle.text.specs.Text.{Bytes, Line}
use Rattle.rules.specs.Forms.{Counts, Atom, Bond, Kind, Property}
use Rattle.rules.specs.Record.{Headers, Molecule, Item, Raw, listed}
use Rattle.judge_pairs.specs.Taken.{pair_taken}
use Rattle.judge_line.specs.Got.{Got, got, bad, then, need}
use Rattle.judge_line.specs.Field.{within}
use Rattle.judge_line.specs.Judge.{first_header_of, counts_of, atom_of, bond_of, property_of, item_of, value_of}
use Rattle.judge_line.specs.Judge.{PropertyOrEnd, property, last, ItemOrEnd, title, close, ValueOrBlank, value, blank}

pub data FileKind : Type 0 where
  molfile : FileKind
  sdfile : FileKind

pub data Place : Type 0 where
  first : Place  -- a record may begin
  second : Line → Place
  third : Line → Line → Place
  counts : Headers → Place
  atoms : Headers → Counts → ℕ → List Atom → Place  -- atom lines owed after the next one, and the atoms read
  bonds : Headers → Counts → List Atom → ℕ → List Bond → Place
  properties : Headers → Counts → List Atom → List Bond → List Property → Place
  over : Molecule → Place  -- after a molfile's `M  END`
  items : Molecule → List Item → Place  -- a data header or `$$$$` must stand
  values : Molecule → List Item → Bytes → List Line → Place

pub data Turn : Type 0 where
  next : Place → Turn
  done : Raw → Turn

-- so many bond lines owed, or none
unfoldable pub to_bonds : Headers → Counts → List Atom → ℕ → List Bond → Place
to_bonds hs c xs zero bs = properties hs c xs bs []
to_bonds hs c xs (suc k) bs = bonds hs c xs k bs

-- so many atom lines owed, or none
unfoldable pub to_atoms : Headers → Counts → ℕ → List Atom → Place
to_atoms hs c zero xs = to_bonds hs c xs c.bonds []
to_atoms hs c (suc k) xs = atoms hs c k xs

abbrev pub after_end : FileKind → Molecule → Place
after_end molfile m = over m
after_end sdfile m = items m []

-- the atoms that lines of a kind have listed
abbrev pub seen_in : List Property → Kind → List ℕ
seen_in ps kind = map (λ e. e.atom) (listed kind ps)

abbrev pub after_property : FileKind → Headers → Counts → List Atom → List Bond → List Property → PropertyOrEnd → Turn
after_property kind hs c xs bs ps (property p) = next (properties hs c xs bs (ps ++ (p ∷ [])))
after_property kind hs c xs bs ps last =
    next (after_end kind (record { headers = hs; counts = c; atoms = xs; bonds = bs; properties = ps }))

abbrev pub after_item : Molecule → List Item → ItemOrEnd → Turn
after_item m is (title name) = next (values m is name [])
after_item m is close = done (record { molecule = m; items = is })

abbrev pub after_value : Molecule → List Item → Bytes → List Line → Line → ValueOrBlank → Turn
after_value m is name vs l value = next (values m is name (vs ++ (l ∷ [])))
after_value m is name vs l blank = next (items m (is ++ (record { name = name; values = vs } ∷ [])))

-- a line of good length and bytes
unfoldable pub line_of : FileKind → ℕ → Place → Line → Got Turn
line_of kind limit first l = then (first_header_of l) λ h. got (next (second h))
line_of kind limit (second h₁) l = got (next (third h₁ l))
line_of kind limit (third h₁ h₂) l = got (next (counts (record { first = h₁; second = h₂; third = l })))
line_of kind limit (counts hs) l = then (counts_of limit l) λ c. got (next (to_atoms hs c c.atoms []))
line_of kind limit (atoms hs c k xs) l = then (atom_of c.atoms l) λ a. got (next (to_atoms hs c k (xs ++ (a ∷ []))))
line_of kind limit (bonds hs c xs k bs) l =
    then (bond_of c.atoms l) λ b. need (not (pair_taken b bs)) 11 1 (got (next (to_bonds hs c xs k (bs ++ (b ∷ [])))))
line_of kind limit (properties hs c xs bs ps) l =
    then (property_of c.atoms (seen_in ps) l) λ p. got (after_property kind hs c xs bs ps p)
line_of kind limit (over m) l = bad 18 1
line_of kind limit (items m is) l = then (item_of l) λ i. got (after_item m is i)
line_of kind limit (values m is name vs) l = then (value_of l) λ v. got (after_value m is name vs l v)

-- the longest line of a place: 200 columns where a value line or the blank line after the values may stand, else 80
abbrev pub longest : Place → ℕ
longest first = 80
longest (second h₁) = 80
longest (third h₁ h₂) = 80
longest (counts hs) = 80
longest (atoms hs c k xs) = 80
longest (bonds hs c xs k bs) = 80
longest (properties hs c xs bs ps) = 80
longest (over m) = 80
longest (items m is) = 80
longest (values m is name vs) = 200

unfoldable pub turn_of : FileKind → ℕ → Place → Line → Got Turn
turn_of kind limit p l = within (longest p) l (line_of kind limit p l)
