-- What may not stand twice, of a list that grows by a bond or by a property line.
use Rattle.std.specs.Prelude.{ℕ, ◌≡◌, refl, ◌≢◌, List, [], ◌∷◌, ◌++◌, Bool, true, false, cond, eqb}
use Rattle.std.proofs.Common.{sym, ◌∙◌, subst, append-nil, append_assoc, ne_eqb}
use Rattle.std.proofs.lemmas.Bool.{eqb-false}
use Rattle.text.specs.Laws.{true_false}
use Rattle.rules.specs.Forms.{Bond, Kind, CHG, RAD, ISO, same_kind, Entry, Property}
use Rattle.rules.specs.Record.{NewPair, NoPairTwice, listed, NotListed, NoAtomTwice}
use Rattle.rules.specs.Entries.{atoms_of, kinds_same, listed_append}
use Rattle.judge_pairs.specs.Append.{pair_once, not_listed_append, pair_front}
use Rattle.judge_line.specs.Field.{elem}
use Rattle.judge_line.specs.Agree.{NewEntries}

-- ---- Bonds

-- a bond of a good list is new among those before it
pub new_among : (b : Bond) (bs cs : List Bond) → NoPairTwice (bs ++ (b ∷ cs)) → NewPair b bs
new_among b bs cs h = ((pair_once bs b).0 (pair_front (bs ++ (b ∷ [])) cs (rw append_assoc h))).1

-- a new bond after a good list
pub pair_after : (b : Bond) (bs : List Bond) → NoPairTwice bs → NewPair b bs → NoPairTwice (bs ++ (b ∷ []))
pair_after b bs h k = (pair_once bs b).1 (h, k)

-- ---- Property lines

-- none of the entries lists an atom seen
Apart : List ℕ → List Entry → Type 0
Apart seen [] = Unit {0}
Apart seen (e ∷ es) = (elem e.atom seen ≡ false) × Apart seen es

elem_more : (x a : ℕ) (seen : List ℕ) → a ≢ x → elem x seen ≡ false → elem x (a ∷ seen) ≡ false
unfolding elem
elem_more x a seen n h = rw (ne_eqb x a (λ e. n (sym e))) h

elem_less : (x a : ℕ) (seen : List ℕ) → elem x (a ∷ seen) ≡ false → (a ≢ x) × (elem x seen ≡ false)
unfolding elem
elem_less x a seen h = go (eqb x a) refl h
  where
    go : (t : Bool) → eqb x a ≡ t → cond t true (elem x seen) ≡ false → (a ≢ x) × (elem x seen ≡ false)
    go true e k = true_false k
    go false e k = ((λ q. eqb-false x a e (sym q)), k)

apart_more : (a : ℕ) (seen : List ℕ) (es : List Entry) → NotListed a es → Apart seen es → Apart (a ∷ seen) es
unfolding Apart NotListed
apart_more a seen [] n h = tt
apart_more a seen (e ∷ es) n h = (elem_more e.atom a seen n.0 h.0, apart_more a seen es n.1 h.1)

apart_less : (a : ℕ) (seen : List ℕ) (es : List Entry) → Apart (a ∷ seen) es → NotListed a es × Apart seen es
unfolding Apart NotListed
apart_less a seen [] h = (tt, tt)
apart_less a seen (e ∷ es) h =
    let d = elem_less e.atom a seen h.0 in
    let r = apart_less a seen es h.1 in
    ((d.0, r.0), (d.1, r.1))

entries_in_lem : (seen : List ℕ) (es : List Entry) → NoAtomTwice es → Apart seen es → NewEntries seen es
unfolding Apart NoAtomTwice NewEntries
entries_in_lem seen [] h k = tt
entries_in_lem seen (e ∷ es) h k = (k.0, entries_in_lem (e.atom ∷ seen) es h.1 (apart_more e.atom seen es h.0 k.1))

entries_out : (seen : List ℕ) (es : List Entry) → NewEntries seen es → NoAtomTwice es × Apart seen es
unfolding Apart NoAtomTwice NewEntries
entries_out seen [] h = (tt, tt)
entries_out seen (e ∷ es) h =
    let r = entries_out (e.atom ∷ seen) es h.1 in
    let d = apart_less e.atom seen es r.1 in
    ((d.0, r.0), (h.0, d.1))

none_apart : (es : List Entry) → Apart [] es
unfolding Apart elem
none_apart [] = tt
none_apart (e ∷ es) = (refl, none_apart es)

once_in : (xs ys : List Entry) → NoAtomTwice xs → NoAtomTwice ys → Apart (atoms_of xs) ys → NoAtomTwice (xs ++ ys)
unfolding NoAtomTwice
once_in [] ys h k a = k
once_in (x ∷ xs) ys h k a =
    let d = apart_less x.atom (atoms_of xs) ys a in
    ((not_listed_append x.atom xs ys).1 (h.0, d.0), once_in xs ys h.1 k d.1)

once_out : (xs ys : List Entry) → NoAtomTwice (xs ++ ys) → NoAtomTwice xs × NoAtomTwice ys × Apart (atoms_of xs) ys
unfolding NoAtomTwice
once_out [] ys h = (tt, h, none_apart ys)
once_out (x ∷ xs) ys h =
    let d = (not_listed_append x.atom xs ys).0 h.0 in
    let r = once_out xs ys h.1 in
    ((d.0, r.0), r.1, apart_more x.atom (atoms_of xs) ys d.1 r.2)

same_kind_lem : (k : Kind) → same_kind k k ≡ true
same_kind_lem CHG = refl
same_kind_lem RAD = refl
same_kind_lem ISO = refl

apart_front : (seen : List ℕ) (xs ys : List Entry) → Apart seen (xs ++ ys) → Apart seen xs
unfolding Apart
apart_front seen [] ys h = tt
apart_front seen (x ∷ xs) ys h = (h.0, apart_front seen xs ys h.1)

-- the entries of a good list's property line are new among those before it
pub entries_among : (p : Property) (ps qs : List Property) → NoAtomTwice (listed p.kind (ps ++ (p ∷ qs))) →
    NewEntries (atoms_of (listed p.kind ps)) p.entries
unfolding listed
entries_among p ps qs h =
    let e : listed p.kind (ps ++ (p ∷ qs)) ≡ listed p.kind ps ++ (p.entries ++ listed p.kind qs) =
    listed_append p.kind ps (p ∷ qs) ∙ rw (same_kind_lem p.kind)
    in
    let a = once_out (listed p.kind ps) (p.entries ++ listed p.kind qs) (subst NoAtomTwice e h) in
    let b = once_out p.entries (listed p.kind qs) a.1 in
    entries_in_lem (atoms_of (listed p.kind ps)) p.entries b.0 (apart_front (atoms_of (listed p.kind ps)) p.entries (listed p.kind qs) a.2)

-- a property line of new entries after a good list
pub entries_after : (p : Property) (ps : List Property) → ((k : Kind) → NoAtomTwice (listed k ps)) → NewEntries (atoms_of (listed p.kind ps)) p.entries →
    (k : Kind) → NoAtomTwice (listed k (ps ++ (p ∷ [])))
unfolding listed
entries_after p ps h new k = subst NoAtomTwice (sym (listed_append k ps (p ∷ []))) (go (same_kind k p.kind) refl)
  where
    go : (t : Bool) → same_kind k p.kind ≡ t → NoAtomTwice (listed k ps ++ (cond t p.entries [] ++ []))
    go true e =
        let q = entries_out (atoms_of (listed p.kind ps)) p.entries new in
        let s = sym (kinds_same k p.kind e) in
        rw (append-nil p.entries) (once_in (listed k ps) p.entries (h k) q.0 (subst (λ (j : Kind). Apart (atoms_of (listed j ps)) p.entries) s q.1))
    go false e = rw (append-nil (listed k ps)) (h k)
