-- What the property lines of a record of n atoms list: some atom each, of 1 to n, with a number that three columns can hold.
use Rattle.std.specs.Prelude.{ℕ, ◌+◌, ◌≤◌, ◌≡◌, List, [], ◌∷◌, ◌++◌, Bool, true, false, cond, ◌||◌, length, ℤ, pos, negsuc}
use Rattle.std.proofs.Common.{arith, length-append}
use Rattle.text.specs.Text.{Line}
use Rattle.field_numbers.specs.Number.{Between}
use Rattle.rules.specs.Forms.{Kind, same_kind, Entry, Property, EntryNumber, charge, radical, isotope, EntriesFrom, PropertyLine}
use Rattle.rules.specs.Record.{listed, Properties, end, more}
use Rattle.rules.specs.Meaning.{among}

pub record ProperEntry (n : ℕ) (e : Entry) : Type 0 where
  pub low : 1 ≤ e.atom
  pub high : e.atom ≤ n
  pub range : Between 15 999 e.number

unfoldable pub ProperEntries : ℕ → List Entry → Type 0
ProperEntries n [] = Unit {0}
ProperEntries n (e ∷ es) = ProperEntry n e × ProperEntries n es

pub record ProperLine (n : ℕ) (p : Property) : Type 0 where
  pub some : 1 ≤ length p.entries
  pub each : ProperEntries n p.entries

unfoldable pub Proper : ℕ → List Property → Type 0
Proper n [] = Unit {0}
Proper n (p ∷ ps) = ProperLine n p × Proper n ps

-- ---- laws

pub proper_more : (n : ℕ) (ps : List Property) (p : Property) → Proper n ps → ProperLine n p → Proper n (ps ++ (p ∷ []))
unfolding Proper
proper_more n [] p h g = (g, tt)
proper_more n (q ∷ ps) p h g = (h.0, proper_more n ps p h.1 g)

entries_both : (n : ℕ) (es fs : List Entry) → ProperEntries n es → ProperEntries n fs → ProperEntries n (es ++ fs)
unfolding ProperEntries
entries_both n [] fs h g = g
entries_both n (e ∷ es) fs h g = (h.0, entries_both n es fs h.1 g)

pub listed_proper : (n : ℕ) (kind : Kind) (ps : List Property) → Proper n ps → ProperEntries n (listed kind ps)
unfolding Proper ProperEntries listed
listed_proper n kind [] h = tt
listed_proper n kind (p ∷ ps) h = entries_both n (cond (same_kind kind p.kind) p.entries []) (listed kind ps) (go (same_kind kind p.kind)) (listed_proper n kind ps h.1)
  where
    go : (t : Bool) → ProperEntries n (cond t p.entries [])
    go true = h.0.each
    go false = tt

-- a kind of which there is a line lists some atom
pub some_listed : (n : ℕ) (kind : Kind) (ps : List Property) → Proper n ps → among kind ps ≡ true → 1 ≤ length (listed kind ps)
unfolding Proper listed among
some_listed n kind [] h e = absurd (let z : ◌≡◌ {A = ℕ} 0 1 = cc in omega arith)
some_listed n kind (p ∷ ps) h e = go (same_kind kind p.kind) e (some_listed n kind ps h.1)
  where
    go : (t : Bool) → (t || among kind ps) ≡ true → (among kind ps ≡ true → 1 ≤ length (listed kind ps)) → 1 ≤ length (cond t p.entries [] ++ listed kind ps)
    go true e r = simp length-append (omega (arith, h.0.some))
    go false e r = r e

-- ---- lines of the format list so

entry_range : (l : Line) (i j : ℕ) (kind : Kind) (z : ℤ) → EntryNumber l i j kind z → Between 15 999 z
entry_range l i j kind z (charge g) = wider z g.range
  where
    wider : (z : ℤ) → Between 15 15 z → Between 15 999 z
    wider (pos k) h = omega arith
    wider (negsuc k) h = h
entry_range l i j kind z (radical g) = omega (arith, g.high)
entry_range l i j kind z (isotope g) = g.high

entries_proper : (n : ℕ) (kind : Kind) (l : Line) (i : ℕ) (es : List Entry) → EntriesFrom n kind l i es → ProperEntries n es
unfolding EntriesFrom ProperEntries
entries_proper n kind l i [] h = tt
entries_proper n kind l i (e ∷ es) h =
    (record { low = h.0.atom.low; high = h.0.atom.high; range = entry_range l (i + 5) (i + 7) kind e.number h.0.number }, entries_proper n kind l (i + 8) es h.1)

pub line_proper : (n : ℕ) (l : Line) (p : Property) → PropertyLine n l p → ProperLine n p
line_proper n l p h = record { some = h.count.low; each = entries_proper n p.kind l 10 p.entries h.entries }

pub lines_proper : {n : ℕ} {t r : List Line} {ps : List Property} → Properties n t ps r → Proper n ps
unfolding Proper
lines_proper (end h) = tt
lines_proper (more {l = l} {p = p} h g) = (line_proper _ l p h, lines_proper g)
