-- Laws of the entries that property lines list, and of those written for a reading.
use Rattle.std.specs.Prelude.{ℕ, suc, ◌<◌, ◌≡◌, refl, List, [], ◌∷◌, ◌++◌, map, Bool, true, false, cond, ◌||◌, ℤ, pos, negsuc}
use Rattle.std.proofs.Common.{arith, sym, ap, ◌∙◌, append_assoc, eqb-true, eq-eqb, ne_eqb}
use Rattle.text.specs.Laws.{false_true}
use Rattle.rules.specs.Forms.{Kind, CHG, RAD, ISO, same_kind, Entry, Property}
use Rattle.rules.specs.Record.{listed, NotListed, NoAtomTwice}
use Rattle.rules.specs.Meaning.{among, number_in}
use Rattle.rules.specs.Canon.{atom_row, is_zero, number_of, entries_from}

-- the atoms of these entries
abbrev pub atoms_of : List Entry → List ℕ
atoms_of es = map (λ e. e.atom) es

pub kinds_same : (j k : Kind) → same_kind j k ≡ true → j ≡ k
kinds_same CHG CHG h = refl
kinds_same CHG RAD h = false_true h
kinds_same CHG ISO h = false_true h
kinds_same RAD CHG h = false_true h
kinds_same RAD RAD h = refl
kinds_same RAD ISO h = false_true h
kinds_same ISO CHG h = false_true h
kinds_same ISO RAD h = false_true h
kinds_same ISO ISO h = refl

-- ---- What lines list

pub listed_append : (k : Kind) (ps qs : List Property) → listed k (ps ++ qs) ≡ listed k ps ++ listed k qs
unfolding listed
listed_append k [] qs = refl
listed_append k (p ∷ ps) qs =
    ap (λ (x : List Entry). cond (same_kind k p.kind) p.entries [] ++ x) (listed_append k ps qs)
    ∙ sym (append_assoc (cond (same_kind k p.kind) p.entries []) (listed k ps) (listed k qs))

pub among_append : (k : Kind) (ps qs : List Property) → among k (ps ++ qs) ≡ (among k ps || among k qs)
unfolding among
among_append k [] qs = refl
among_append k (p ∷ ps) qs = go (same_kind k p.kind) (among_append k ps qs)
  where
    go : (t : Bool) → among k (ps ++ qs) ≡ (among k ps || among k qs) → (t || among k (ps ++ qs)) ≡ ((t || among k ps) || among k qs)
    go true e = refl
    go false e = e

-- a kind of which there is no line lists nothing
pub not_among : (k : Kind) (ps : List Property) → among k ps ≡ false → listed k ps ≡ []
unfolding among listed
not_among k [] h = refl
not_among k (p ∷ ps) h = go (same_kind k p.kind) (not_among k ps) h
  where
    go : (t : Bool) → (among k ps ≡ false → listed k ps ≡ []) → (t || among k ps) ≡ false → cond t p.entries [] ++ listed k ps ≡ []
    go true r h = absurd (let z : ◌≡◌ {A = ℕ} 0 1 = cc in omega arith)
    go false r h = r h

-- ---- Entries by rising atom number

pub not_before : (k : Kind) (i j : ℕ) (ts : List (List ℤ)) → j < i → NotListed j (entries_from k i ts)
unfolding entries_from NotListed
not_before k i j [] h = tt
not_before k i j (t ∷ ts) h = go (is_zero (number_of k (atom_row t))) (not_before k (suc i) j ts (omega arith))
  where
    go : (z : Bool) → NotListed j (entries_from k (suc i) ts) →
        NotListed j (cond z (entries_from k (suc i) ts) (record { atom = i; number = number_of k (atom_row t) } ∷ entries_from k (suc i) ts))
    go true r = r
    go false r = (λ e. omega arith, r)

pub rising_once : (k : Kind) (i : ℕ) (ts : List (List ℤ)) → NoAtomTwice (entries_from k i ts)
unfolding entries_from NoAtomTwice
rising_once k i [] = tt
rising_once k i (t ∷ ts) = go (is_zero (number_of k (atom_row t))) (rising_once k (suc i) ts)
  where
    go : (z : Bool) → NoAtomTwice (entries_from k (suc i) ts) →
        NoAtomTwice (cond z (entries_from k (suc i) ts) (record { atom = i; number = number_of k (atom_row t) } ∷ entries_from k (suc i) ts))
    go true r = r
    go false r = (not_before k (suc i) i ts (omega arith), r)

-- an atom that is not listed has 0
pub not_listed : (j : ℕ) (es : List Entry) → NotListed j es → number_in es j ≡ pos 0
unfolding NotListed number_in
not_listed j [] h = refl
not_listed j (e ∷ es) h = rw (ne_eqb e.atom j (λ p. h.0 (sym p))) (not_listed j es h.1)

pub is_zero_lem : (z : ℤ) → is_zero z ≡ true → z ≡ pos 0
is_zero_lem (pos k) h = ap pos (eqb-true k 0 h)
is_zero_lem (negsuc k) h = absurd (let z : ◌≡◌ {A = ℕ} 0 1 = cc in omega arith)

-- the first atom has its number
pub entries_first : (k : Kind) (i : ℕ) (t : List ℤ) (ts : List (List ℤ)) → number_in (entries_from k i (t ∷ ts)) i ≡ number_of k (atom_row t)
unfolding entries_from number_in
entries_first k i t ts = go (is_zero (number_of k (atom_row t))) refl
  where
    go : (z : Bool) → is_zero (number_of k (atom_row t)) ≡ z →
        number_in (cond z (entries_from k (suc i) ts) (record { atom = i; number = number_of k (atom_row t) } ∷ entries_from k (suc i) ts)) i ≡ number_of k (atom_row t)
    go true e = not_listed i (entries_from k (suc i) ts) (not_before k (suc i) i ts (omega arith)) ∙ sym (is_zero_lem (number_of k (atom_row t)) e)
    go false e = rw (eq-eqb i i refl)

-- and does not touch those after it
pub entries_later : (k : Kind) (i j : ℕ) (t : List ℤ) (ts : List (List ℤ)) → i < j → number_in (entries_from k i (t ∷ ts)) j ≡ number_in (entries_from k (suc i) ts) j
unfolding entries_from number_in
entries_later k i j t ts h = go (is_zero (number_of k (atom_row t)))
  where
    go : (z : Bool) →
        number_in (cond z (entries_from k (suc i) ts) (record { atom = i; number = number_of k (atom_row t) } ∷ entries_from k (suc i) ts)) j ≡ number_in (entries_from k (suc i) ts) j
    go true = refl
    go false = rw (ne_eqb i j (λ e. omega arith))
