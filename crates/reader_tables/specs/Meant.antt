-- The rows given their meaning are the atoms as the rules read them.
use Prim.Native.Nat.{ℕ, zero, suc, ◌+◌, ◌*◌, ◌-◌, ◌≤◌}
use native.Mathlib.Omega.{arith}
use Rattle.std.proofs.Common.{add-one, ap₂, ◌∙◌, take-append-drop, drop_at, take_at, get_or-append-add}
use Rattle.std.specs.Prelude.{◌≡◌, Bool, cond, eqb, get_or, take, drop, pos, negsuc}
use Rattle.std.proofs.Math.Path.{refl, sym, ap}
use mathlib.Core.List.{List, [], ◌∷◌, ◌++◌, append_assoc}
use Rattle.std.proofs.Math.Bool.{true, false}
use Rattle.std.proofs.Math.ListN.{length, length-append}
use Rattle.std.proofs.lemmas.List.Edits.{sets, sets-eq}
use Rattle.std.proofs.Math.Seq.{length-sets, take-append_seam, drop-append-add}
use Rattle.std.proofs.Math.IntN.{ℤ}
use borrow.Author.Tests.{eq-eqb, ne_eqb, eqb-true, eqb-false, le-leb, lt-leb}
use Rattle.field_numbers.specs.Number.{Between}
use Rattle.rules.specs.Forms.{Atom, Kind, CHG, RAD, ISO, Entry, Property}
use Rattle.rules.specs.Record.{Molecule, listed}
use Rattle.rules.specs.Meaning.{among, number_in, mass_difference_of, charge_of, radical_of, isotope_of, atom_numbers, atoms_from}
use Rattle.rules.specs.Entries.{not_among}
use Rattle.line_property.specs.Listed.{base, noted, noted_in, Shows}
use Rattle.reader_tables.specs.Row.{raw_row, raw_rows, flat, Holds}
use Rattle.reader_tables.specs.Held.{drop_sets}
use Rattle.reader_tables.specs.Mean.{any_after, any_listed, superseded_in, number_kept, listed_number, Kept, four_of, meant_row, meant_from, meant}
use Rattle.reader_tables.specs.declared.Superseded.{Superseded}
use Rattle.line_property.specs.Proper.{ProperEntries, Proper, listed_proper, some_listed}
use Rattle.line_property.specs.Seen.{noted_some}

-- ---- numbers kept

kept_back : (z : ℤ) → Between 15 999 z → number_kept (noted z) ≡ z
kept_back (pos k) h =
    let e : k + 16 - 16 ≡ k = omega arith in
    rw (ne_eqb (k + 16) 0 (λ (q : k + 16 ≡ 0). omega arith), le-leb 16 (k + 16) (omega arith), e)
kept_back (negsuc k) h =
    let e : 16 - (15 - k) ≡ suc k = omega arith in
    rw (ne_eqb (15 - k) 0 (λ (q : 15 - k ≡ 0). omega arith), lt-leb 16 (15 - k) (omega arith), e)

noted_small : (z : ℤ) → Between 15 999 z → noted z ≤ 1015
noted_small (pos k) h = omega arith
noted_small (negsuc k) h = omega arith

number_back : (n : ℕ) (es : List Entry) (atom : ℕ) → ProperEntries n es → number_kept (noted_in es atom) ≡ number_in es atom
unfolding ProperEntries noted_in number_in
number_back n [] atom h = refl
number_back n (e ∷ es) atom h = go (eqb e.atom atom) (number_back n es atom h.1)
  where
    go : (t : Bool) → number_kept (noted_in es atom) ≡ number_in es atom → number_kept (cond t (noted e.number) (noted_in es atom)) ≡ cond t e.number (number_in es atom)
    go true r = kept_back e.number h.0.range
    go false r = r

small_back : (n : ℕ) (es : List Entry) (atom : ℕ) → ProperEntries n es → noted_in es atom ≤ 1015
unfolding ProperEntries noted_in
small_back n [] atom h = omega arith
small_back n (e ∷ es) atom h = go (eqb e.atom atom) (small_back n es atom h.1)
  where
    go : (t : Bool) → noted_in es atom ≤ 1015 → cond t (noted e.number) (noted_in es atom) ≤ 1015
    go true r = noted_small e.number h.0.range
    go false r = r

-- ---- kinds listed

any_none : (from : ℕ) (t : List ℕ) (n : ℕ) → ((a : ℕ) → a ≤ n → get_or t (from + a) 0 ≡ 0) → any_after from t n ≡ false
unfolding any_after
any_none from t zero h = refl
any_none from t (suc n) h = rw (eq-eqb _ 0 (h (suc n) (omega arith))) (any_none from t n (λ a q. h a (omega arith)))

any_some : (from : ℕ) (t : List ℕ) (n a : ℕ) → 1 ≤ a → a ≤ n → 1 ≤ get_or t (from + a) 0 → any_after from t n ≡ true
unfolding any_after
any_some from t zero a l h s = absurd (omega arith)
any_some from t (suc n) a l h s = go (eqb a (suc n)) refl (eqb (get_or t (from + suc n) 0) 0) refl (λ q. any_some from t n a l q s)
  where
    go : (b : Bool) → eqb a (suc n) ≡ b → (v : Bool) → eqb (get_or t (from + suc n) 0) 0 ≡ v → (a ≤ n → any_after from t n ≡ true) → cond v (any_after from t n) true ≡ true
    go b e false q r = refl
    go true e true q r =
        let same : a ≡ suc n = eqb-true a (suc n) e in
        let none : get_or t (from + suc n) 0 ≡ 0 = eqb-true _ 0 q in
        absurd (let z : get_or t (from + a) 0 ≡ 0 = rw same none in omega arith)
    go false e true q r = r (omega (arith, eqb-false a (suc n) e))

module _ (n : ℕ) (t : List ℕ) (ps : List Property) (shows : Shows n t ps) (proper : Proper n ps) where
  pub shows_kept : Kept n t
  shows_kept = record { small = λ kind atom h. rw (shows.each kind atom h) (small_back n (listed kind ps) atom (listed_proper n kind ps proper)) }

  pub shows_number : (kind : Kind) (atom : ℕ) → atom ≤ n → listed_number kind t atom ≡ number_in (listed kind ps) atom
  shows_number kind atom h = rw (shows.each kind atom h) (number_back n (listed kind ps) atom (listed_proper n kind ps proper))

  first_listed : (kind : Kind) (es : List Entry) → listed kind ps ≡ es → ProperEntries n es → 1 ≤ length es → any_listed kind t n ≡ true
  unfolding ProperEntries noted_in
  first_listed kind [] q h s = absurd (omega arith)
  first_listed kind (e ∷ es) q h s =
      any_some (base kind) t n e.atom h.0.low h.0.high
      (rw (shows.each kind e.atom h.0.high, q, eq-eqb e.atom e.atom refl) (noted_some 999 e.number h.0.range))

  pub shows_any : (kind : Kind) → any_listed kind t n ≡ among kind ps
  unfolding noted_in
  shows_any kind = go (among kind ps) refl
    where
      go : (b : Bool) → among kind ps ≡ b → any_listed kind t n ≡ b
      go true e = first_listed kind (listed kind ps) refl (listed_proper n kind ps proper) (some_listed n kind ps proper e)
      go false e = any_none (base kind) t n (λ a h. shows.each kind a h ∙ rw (not_among kind ps e))

-- ---- stores in the middle

sets_seam : (p vs os q : List ℤ) (i : ℕ) → i ≡ length p → length os ≡ length vs → sets (p ++ (os ++ q)) i vs ≡ p ++ (vs ++ q)
sets_seam p vs os q i e h =
    let k : length (p ++ (os ++ q)) ≡ length p + (length os + length q) = length-append p (os ++ q) ∙ ap (λ (j : ℕ). length p + j) (length-append os q) in
    rw e
    (sets-eq vs (p ++ (os ++ q)) (length p) (omega arith)
    ∙ ap₂ (λ (x y : List ℤ). x ++ vs ++ y) (take-append_seam p (os ++ q)) (drop-append-add p (os ++ q) (length vs) ∙ drop_at os q (length vs) h)
    ∙ append_assoc p vs q)

-- ---- rows

module _ (n : ℕ) (t : List ℕ) (m : Molecule) (shows : Shows n t m.properties) (proper : Proper n m.properties) where
  row_is : (pre q : List ℤ) (a : Atom) (i : ℕ) → length pre ≡ 16 * i → suc i ≤ n → meant_row (superseded_in n t) t i (pre ++ (raw_row a ++ q)) ≡ pre ++ (atom_numbers m (suc i) a ++ q)
  row_is pre q a i h k =
      let whole : List ℤ = pre ++ (raw_row a ++ q) in
      let front : List ℤ = a.x ∷ a.y ∷ a.z ∷ pos a.symbol ∷ [] in
      let back : List ℤ = pos a.parity ∷ pos a.hydrogen_count ∷ pos a.stereo_care ∷ pos a.valence ∷ pos a.H0 ∷ pos a.atom_map ∷ pos a.inversion ∷ pos a.exact_change ∷ q in
      let four : 16 * i + 4 ≡ length pre + 4 = omega arith in
      let five : 16 * i + 5 ≡ length pre + 5 = omega arith in
      let mass : get_or whole (16 * i + 4) (pos 0) ≡ a.mass_difference = rw four (get_or-append-add pre (raw_row a ++ q) 4 (pos 0)) in
      let code : get_or whole (16 * i + 5) (pos 0) ≡ pos a.charge_code = rw five (get_or-append-add pre (raw_row a ++ q) 5 (pos 0)) in
      let place : 16 * i + 4 ≡ length (pre ++ front) = omega (arith, length-append pre front) in
      rw (
        mass,
        code,
        add-one i,
        shows_any n t m.properties shows proper CHG,
        shows_any n t m.properties shows proper RAD,
        shows_any n t m.properties shows proper ISO,
        shows_number n t m.properties shows proper CHG (suc i) k,
        shows_number n t m.properties shows proper RAD (suc i) k,
        shows_number n t m.properties shows proper ISO (suc i) k,
      )
      (ap (λ (x : List ℤ). sets x (16 * i + 4) (mass_difference_of m a ∷ charge_of m (suc i) a ∷ radical_of m (suc i) a ∷ isotope_of m (suc i) ∷ []))
      (sym (append_assoc pre front (a.mass_difference ∷ pos a.charge_code ∷ pos 0 ∷ pos 0 ∷ back)))
      ∙ sets_seam (pre ++ front) (mass_difference_of m a ∷ charge_of m (suc i) a ∷ radical_of m (suc i) a ∷ isotope_of m (suc i) ∷ [])
      (a.mass_difference ∷ pos a.charge_code ∷ pos 0 ∷ pos 0 ∷ []) back (16 * i + 4) place refl
      ∙ append_assoc pre front (mass_difference_of m a ∷ charge_of m (suc i) a ∷ radical_of m (suc i) a ∷ isotope_of m (suc i) ∷ back))

  rows_are : (xs : List Atom) (pre rest : List ℤ) (i : ℕ) → length pre ≡ 16 * i → i + length xs ≤ n →
      meant_from (superseded_in n t) t i (length xs) (pre ++ (raw_rows xs ++ rest)) ≡ pre ++ (flat (atoms_from m (suc i) xs) ++ rest)
  unfolding meant_from raw_rows flat atoms_from
  rows_are [] pre rest i h k = refl
  rows_are (a ∷ xs) pre rest i h k =
      let row : List ℤ = atom_numbers m (suc i) a in
      let l : length (pre ++ row) ≡ 16 * suc i = length-append pre row ∙ omega arith in
      ap (meant_from (superseded_in n t) t (suc i) (length xs)) (row_is pre (raw_rows xs ++ rest) a i h (omega arith) ∙ sym (append_assoc pre row (raw_rows xs ++ rest)))
      ∙ rows_are xs (pre ++ row) rest (suc i) l (omega arith)
      ∙ append_assoc pre row (flat (atoms_from m (suc (suc i)) xs) ++ rest)

  -- THE MEANING: the table begins with the atoms as the rules read them
  pub meant_holds : (u : List ℤ) (xs : List Atom) → length xs ≡ n → Holds u (raw_rows xs) → Holds (meant n u t) (flat (atoms_from m 1 xs))
  meant_holds u xs e h =
      let rows : List ℤ = raw_rows xs in
      let rest : List ℤ = drop (length rows) u in
      let whole : u ≡ rows ++ rest = sym (take-append-drop (length rows) u) ∙ ap (λ (x : List ℤ). x ++ rest) h in
      let done : meant n u t ≡ flat (atoms_from m 1 xs) ++ rest =
      ap (λ (k : ℕ). meant_from (superseded_in n t) t 0 k u) (sym e)
      ∙ ap (meant_from (superseded_in n t) t 0 (length xs)) whole
      ∙ rows_are xs [] rest 0 refl (omega arith)
      in
      ap (take (length (flat (atoms_from m 1 xs)))) done ∙ take_at (flat (atoms_from m 1 xs)) rest (length (flat (atoms_from m 1 xs))) refl

-- ---- what stays as it was

module _ (over : Superseded) (t : List ℕ) where
  from_length : (i k : ℕ) (u : List ℤ) → length (meant_from over t i k u) ≡ length u
  unfolding meant_from
  from_length i zero u = refl
  from_length i (suc k) u = from_length (suc i) k (meant_row over t i u) ∙ simp length-sets

  from_past : (i k j : ℕ) (u : List ℤ) → 16 * (i + k) ≤ j → drop j (meant_from over t i k u) ≡ drop j u
  unfolding meant_from
  from_past i zero j u h = refl
  from_past i (suc k) j u h = from_past (suc i) k j (meant_row over t i u) (omega arith) ∙ drop_sets (four_of over t i u) u (16 * i + 4) j (omega arith)

pub meant_length : (n : ℕ) (u : List ℤ) (t : List ℕ) → length (meant n u t) ≡ length u
meant_length n u t = from_length (superseded_in n t) t 0 n u

pub meant_past : (n : ℕ) (u : List ℤ) (t : List ℕ) (j : ℕ) → 16 * n ≤ j → drop j (meant n u t) ≡ drop j u
meant_past n u t j h = from_past (superseded_in n t) t 0 n j u (omega arith)

pub length_meant_rows : (m : Molecule) (i : ℕ) (xs : List Atom) → length (flat (atoms_from m i xs)) ≡ 16 * length xs
unfolding flat atoms_from
length_meant_rows m i [] = refl
length_meant_rows m i (a ∷ xs) = omega (arith, length_meant_rows m (suc i) xs)
