-- Steps of a cursor: its numbers fit, and each end of the code gives the definition's answer and tables.
use Rattle.std.specs.Prelude.{ℕ, ◌+◌, ◌-◌, ◌*◌, ◌≤◌, ◌<◌, ◌^◌, ◌≡◌, List, Bool, cond, ltb, leb, take, drop, ℤ}
use native.Mathlib.Omega.{arith}
use Rattle.std.proofs.Math.Path.{refl, ap}
use Rattle.std.proofs.Common.{sym, ◌∙◌, length-drop}
use Rattle.std.proofs.Math.Bool.{true, false}
use Rattle.std.proofs.Math.ListN.{length}
use borrow.Author.Tests.{lt-ltb, le-ltb, le-leb, lt-leb, ltb-true, ltb-false, leb-true, leb-false}
use Rattle.text.specs.Text.{Bytes}
use Rattle.text.specs.Laws.{tail_is}
use Rattle.rules.specs.Record.{atom_places, bond_places}
use Rattle.judge_file.specs.Place.{sdfile}
use Rattle.judge_file.specs.WalkText.{after_lines}
use Rattle.reader_walk.specs.Outcome.{Outcome, whole, refused, outcome_of}
use Rattle.reader_walk.specs.Walked.{walked_by, walk_of}
use Rattle.reader_cursor.specs.declared.Cursor.{Cursor}
use Rattle.reader_cursor.specs.Walk.{past, Countable}
use Rattle.reader_cursor.specs.After.{outcome_size, outcome_line}
use Rattle.reader_answer.specs.declared.RecordRead.{RecordRead}
use Rattle.reader_answer.specs.Read.{answered, read_as, read_of, atoms_after, bonds_after}
use Rattle.reader_file.specs.declared.Next.{Next}
use Rattle.reader_file.specs.Next.{Within, within, next_by, next_at, atoms_at, bonds_at, next_on, atoms_on, bonds_on, next_of, atoms_next, bonds_next}

-- ---- The numbers of a reading lie within its text

apart : {X : Type 0} {n m chiral len k h a b e i c : ℕ} → RecordRead.Refused e i c ≡ RecordRead.Read n m chiral len k h a b → X
apart h = absurd (let z : ◌≡◌ {A = ℕ} 0 1 = cc in omega arith)

module _ (la lb : ℕ) (t : Bytes) where
  abbrev by : Bool → Bool → Outcome → RecordRead
  by x y o = cond x (RecordRead.Refused 2 0 0) (cond y (RecordRead.Refused 2 0 0) (answered (walked_by sdfile t o)))

  read_small : (n m chiral len k h a b : ℕ) → read_of 1 la lb t ≡ RecordRead.Read n m chiral len k h a b → (1 ≤ k) × (k ≤ len) × (len ≤ length t)
  unfolding read_of read_as walk_of answered
  read_small n m chiral len k h a b e = go (ltb la atom_places) (ltb lb bond_places) (outcome_of sdfile t) refl e
    where
      go : (x y : Bool) (o : Outcome) → outcome_of sdfile t ≡ o → by x y o ≡ RecordRead.Read n m chiral len k h a b → (1 ≤ k) × (k ≤ len) × (len ≤ length t)
      go true y o i q = apart q
      go false true o i q = apart q
      go false false (whole x j) i q =
          let jk : j ≡ k = cc in
          let size : after_lines t 0 j ≡ len = cc in
          let w = outcome_size t x j i in
          (omega (arith, w.0), omega (arith, w.1), omega (arith, w.2))
      go false false (refused n j d) i q = apart q

  refused_small : (e i c : ℕ) → read_of 1 la lb t ≡ RecordRead.Refused e i c → i ≤ length t + 1
  unfolding read_of read_as walk_of answered
  refused_small e i c h = go (ltb la atom_places) (ltb lb bond_places) (outcome_of sdfile t) refl h
    where
      no_line : RecordRead.Refused 2 0 0 ≡ RecordRead.Refused e i c → i ≤ length t + 1
      no_line q = let z : 0 ≡ i = cc in omega arith

      go : (x y : Bool) (o : Outcome) → outcome_of sdfile t ≡ o → by x y o ≡ RecordRead.Refused e i c → i ≤ length t + 1
      go true y o j q = no_line q
      go false true o j q = no_line q
      go false false (whole x k) j q = apart (sym q)
      go false false (refused n k d) j q =
          let ki : k ≡ i = cc in
          omega (arith, outcome_line t n k d j)

-- ---- The record at the cursor

module _ (c : Cursor) (s : Bytes) (g : Within c s) (la lb : ℕ) (r : RecordRead) (er : r ≡ read_of 1 la lb (take (length s - c.at) (drop c.at s))) where
  is : r ≡ read_of 1 la lb (drop c.at s)
  is = er ∙ ap (read_of 1 la lb) (tail_is s c.at)

  module _ (n m chiral len k h a b : ℕ) (q : r ≡ RecordRead.Read n m chiral len k h a b) where
    room : (1 ≤ k) × (k ≤ len) × (len ≤ length (drop c.at s))
    room = read_small la lb (drop c.at s) n m chiral len k h a b (sym is ∙ q)

    pub fits_past : length s * 1 < 2 ^ 63 → Countable c len k
    fits_past f =
        let w = room in
        record {
          at = omega (arith, w.2, g.left, length-drop c.at s);
          lines = omega (arith, w.1, w.2, g.left, g.lines, length-drop c.at s);
          records = omega (arith, g.left, g.lines, g.records);
        }

    pub step_record : (d : Cursor) → d ≡ past c len k → Next.Record n m chiral len k h a b d ≡ next_at c la lb s
    unfolding next_at
    step_record d e = ap (Next.Record n m chiral len k h a b) e ∙ ap (next_by c) (sym q ∙ is)

  module _ (e i column : ℕ) (q : r ≡ RecordRead.Refused e i column) where
    pub fits_line : length s * 1 < 2 ^ 63 → c.lines + i < 2 ^ 64
    fits_line f =
        let w = refused_small la lb (drop c.at s) e i column (sym is ∙ q) in
        omega (arith, w, g.left, g.lines, length-drop c.at s)

    pub step_refused : (l : ℕ) → l ≡ c.lines + i → Next.Refused e l column ≡ next_at c la lb s
    unfolding next_at
    step_refused l h = ap (λ (j : ℕ). Next.Refused e j column) h ∙ ap (next_by c) (sym q ∙ is)

pub step_atoms : (c : Cursor) (s : Bytes) (lb : ℕ) (t u : List ℤ) → u ≡ atoms_after 1 lb (take (length s - c.at) (drop c.at s)) t → u ≡ atoms_at c lb s t
unfolding atoms_at
step_atoms c s lb t u e = e ∙ ap (λ (v : Bytes). atoms_after 1 lb v t) (tail_is s c.at)

pub step_bonds : (c : Cursor) (s : Bytes) (la : ℕ) (t u : List ℤ) → u ≡ bonds_after 1 la (take (length s - c.at) (drop c.at s)) t → u ≡ bonds_at c la s t
unfolding bonds_at
step_bonds c s la t u e = e ∙ ap (λ (v : Bytes). bonds_after 1 la v t) (tail_is s c.at)

pub ruleset step_laws = (fits_past, fits_line, step_record, step_refused, step_atoms, step_bonds)

-- ---- Any cursor

module _ (c : Cursor) (s : Bytes) where
  pub not_left : length s ≤ c.at → within c s ≡ false
  unfolding within
  not_left h = rw (le-ltb c.at (length s) h)

  pub many_lines : c.at < length s → c.at < c.lines → within c s ≡ false
  unfolding within
  many_lines h k = rw (lt-ltb c.at (length s) h, lt-leb c.lines c.at k)

  pub many_records : c.at < length s → c.lines ≤ c.at → c.lines < c.records → within c s ≡ false
  unfolding within
  many_records h k j = rw (lt-ltb c.at (length s) h, le-leb c.lines c.at k, lt-leb c.records c.lines j)

  pub here : Within c s → within c s ≡ true
  unfolding within
  here g = rw (lt-ltb c.at (length s) g.left, le-leb c.lines c.at g.lines, le-leb c.records c.lines g.records)

  pub all_within : c.at < length s → c.lines ≤ c.at → c.records ≤ c.lines → Within c s
  all_within h k j = record { left = h; lines = k; records = j }

  pub end_next : (la lb : ℕ) → within c s ≡ false → Next.End ≡ next_on c la lb s
  unfolding next_on
  end_next la lb e = rw e

  pub end_atoms : (lb : ℕ) (t : List ℤ) → within c s ≡ false → t ≡ atoms_on c lb s t
  unfolding atoms_on
  end_atoms lb t e = rw e

  pub end_bonds : (la : ℕ) (t : List ℤ) → within c s ≡ false → t ≡ bonds_on c la s t
  unfolding bonds_on
  end_bonds la t e = rw e

  pub read_there : (la lb : ℕ) (r : Next) → Within c s → r ≡ next_at c la lb s → r ≡ next_on c la lb s
  unfolding next_on
  read_there la lb r g e = rw (here g) e

  pub atoms_there : (lb : ℕ) (t u : List ℤ) → Within c s → u ≡ atoms_at c lb s t → u ≡ atoms_on c lb s t
  unfolding atoms_on
  atoms_there lb t u g e = rw (here g) e

  pub bonds_there : (la : ℕ) (t u : List ℤ) → Within c s → u ≡ bonds_at c la s t → u ≡ bonds_on c la s t
  unfolding bonds_on
  bonds_there la t u g e = rw (here g) e

-- no walk over the file stands there
pub outside : (c : Cursor) (s : Bytes) → ¬ Within c s → within c s ≡ false
outside c s h = go (ltb c.at (length s)) refl (leb c.lines c.at) refl (leb c.records c.lines) refl
  where
    go : (x : Bool) → ltb c.at (length s) ≡ x → (y : Bool) → leb c.lines c.at ≡ y → (z : Bool) → leb c.records c.lines ≡ z → within c s ≡ false
    go false ex y ey z ez = not_left c s (ltb-false c.at (length s) ex)
    go true ex false ey z ez = many_lines c s (ltb-true c.at (length s) ex) (leb-false c.lines c.at ey)
    go true ex true ey false ez =
        many_records c s (ltb-true c.at (length s) ex) (leb-true c.lines c.at ey) (leb-false c.records c.lines ez)
    go true ex true ey true ez =
        absurd (h (all_within c s (ltb-true c.at (length s) ex) (leb-true c.lines c.at ey) (leb-true c.records c.lines ez)))

pub ruleset place_laws = (not_left, many_lines, many_records, end_next, end_atoms, end_bonds, all_within, read_there, atoms_there, bonds_there)

-- ---- Tables without room, and with

module _ (c : Cursor) (s : Bytes) where
  pub short_atoms : (la lb : ℕ) → la < atom_places → Next.Refused 2 0 0 ≡ next_of c la lb s
  unfolding next_of
  short_atoms la lb h = rw (lt-ltb la atom_places h)

  pub short_bonds : (la lb : ℕ) → atom_places ≤ la → lb < bond_places → Next.Refused 2 0 0 ≡ next_of c la lb s
  unfolding next_of
  short_bonds la lb h k = rw (le-ltb la atom_places h, lt-ltb lb bond_places k)

  pub enough : (la lb : ℕ) (r : Next) → atom_places ≤ la → bond_places ≤ lb → r ≡ next_on c la lb s → r ≡ next_of c la lb s
  unfolding next_of
  enough la lb r h k e = rw (le-ltb la atom_places h, le-ltb lb bond_places k) e

  pub atoms_short : (lb : ℕ) (t : List ℤ) → length t < atom_places → t ≡ atoms_next c lb s t
  unfolding atoms_next
  atoms_short lb t h = rw (lt-ltb (length t) atom_places h)

  pub atoms_beside : (lb : ℕ) (t : List ℤ) → atom_places ≤ length t → lb < bond_places → t ≡ atoms_next c lb s t
  unfolding atoms_next
  atoms_beside lb t h k = rw (le-ltb (length t) atom_places h, lt-ltb lb bond_places k)

  pub atoms_enough : (lb : ℕ) (t u : List ℤ) → atom_places ≤ length t → bond_places ≤ lb → u ≡ atoms_on c lb s t → u ≡ atoms_next c lb s t
  unfolding atoms_next
  atoms_enough lb t u h k e = rw (le-ltb (length t) atom_places h, le-ltb lb bond_places k) e

  pub bonds_beside : (la : ℕ) (t : List ℤ) → la < atom_places → t ≡ bonds_next c la s t
  unfolding bonds_next
  bonds_beside la t h = rw (lt-ltb la atom_places h)

  pub bonds_short : (la : ℕ) (t : List ℤ) → atom_places ≤ la → length t < bond_places → t ≡ bonds_next c la s t
  unfolding bonds_next
  bonds_short la t h k = rw (le-ltb la atom_places h, lt-ltb (length t) bond_places k)

  pub bonds_enough : (la : ℕ) (t u : List ℤ) → atom_places ≤ la → bond_places ≤ length t → u ≡ bonds_on c la s t → u ≡ bonds_next c la s t
  unfolding bonds_next
  bonds_enough la t u h k e = rw (le-ltb la atom_places h, le-ltb (length t) bond_places k) e

pub ruleset room_laws = (short_atoms, short_bonds, enough, atoms_short, atoms_beside, atoms_enough, bonds_beside, bonds_short, bonds_enough)
