-- The answer of the reading of a record: what the array tells in the words of the rules.
use Rattle.std.specs.Prelude.{ℕ, zero, suc, ◌≤◌, ◌<◌, ◌≡◌, refl, ◌↔◌, Bool, true, false, List, ltb, length, ℤ}
use Rattle.std.proofs.Common.{arith, sym, ap, ◌∙◌, subst, ltb-true, ltb-false}
use Rattle.text.specs.Text.{Bytes}
use Rattle.rules.specs.Record.{Raw, atom_places, bond_places}
use Rattle.judge_file.specs.Place.{FileKind, molfile, sdfile}
use Rattle.judge_file.specs.Verdict.{refused}
use Rattle.judge_file.specs.SameVerdict.{accepted_refused, same_numbers}
use Rattle.judge_refusals.specs.NoRecord.{NoRecord}
use Rattle.reader_answer.specs.declared.RecordRead.{RecordRead}
use Rattle.reader_answer.specs.Promise.{Begins, Roomy, Reads, Refusal, kind_number, numbers_of, ReadPromise}
use Rattle.reader_rows.specs.Says.{row_places}
use Rattle.reader_answer.specs.declared.Counted.{Counted}
use Rattle.reader_answer.specs.Rowed.{After, after, rowed_of, RowedPromise}
use Rattle.reader_answer.specs.Told.{reply_of, begins_told}
use Rattle.capellanote_numbers.specs.Numbers.{read_numbers}
use Rattle.capellanote.specs.Answer.{number, by_first, first_refused, zero_exactly}
use Rattle.capellanote.specs.Check.{at_numbered}

-- what an array tells
abbrev pub record_told : List ℕ → RecordRead
record_told a = RecordRead.Read (number a 1) (number a 2) (number a 3) (number a 4) (number a 5) (number a 6) (number a 7) (number a 8)

unfoldable pub read_told : List ℕ → RecordRead
read_told a = by_first (number a 0) (record_told a) (λ e. RecordRead.Refused e (number a 1) (number a 2))

-- with the memory after it
abbrev pub rowed_told : List ℕ → List ℤ → List ℤ → List ℕ → After
rowed_told a ta tb ws = record { read = read_told a; asked = number a 9; atoms = ta; bonds = tb; rows = ws }

-- by the rules a record begins the text, and tables and rows have room
abbrev pub GoodRecord : ℕ → Bytes → List ℤ → List ℤ → List ℕ → Type 0
GoodRecord kind s ta tb ws = (k : FileKind) × (kind ≡ kind_number k) × Roomy ta tb × (row_places ≤ length ws) × ((x : Raw) × Begins k s x)

-- ---- Kind and room

pub by_room_lem : {X : Type 0} (ta tb : List ℤ) → (Roomy ta tb → X) → (¬ Roomy ta tb → X) → X
by_room_lem {X} ta tb y n = go (ltb (length ta) atom_places) refl (ltb (length tb) bond_places) refl
  where
    go : (t : Bool) → ltb (length ta) atom_places ≡ t → (u : Bool) → ltb (length tb) bond_places ≡ u → X
    go true p u q = let h = ltb-true (length ta) atom_places p in n (λ r. omega (arith, h, r.atoms))
    go false p true q = let h = ltb-true (length tb) bond_places q in n (λ r. omega (arith, h, r.bonds))
    go false p false q = y (record { atoms = ltb-false (length ta) atom_places p; bonds = ltb-false (length tb) bond_places q })

by_rows : {X : Type 0} (ws : List ℕ) → (row_places ≤ length ws → X) → (length ws < row_places → X) → X
by_rows {X} ws y n = go (ltb (length ws) row_places) refl
  where
    go : (t : Bool) → ltb (length ws) row_places ≡ t → X
    go true p = n (ltb-true (length ws) row_places p)
    go false p = y (ltb-false (length ws) row_places p)

by_kind : {X : Type 0} (kind : ℕ) → ((k : FileKind) → kind ≡ kind_number k → kind ≤ 1 → X) → (2 ≤ kind → X) → X
by_kind zero y n = y molfile refl (omega arith)
by_kind (suc zero) y n = y sdfile refl (omega arith)
by_kind (suc (suc kind)) y n = n (omega arith)

-- ---- It tells that answer, since no refusal has the number 0

pub none_numbered : {s : Bytes} {e i column : ℕ} → NoRecord s e i column → 1 ≤ e
none_numbered (NoRecord.line h m c d why) = omega (arith, m.0)
none_numbered (NoRecord.cut_short h v bad) = omega arith

pub refusal_numbered : (k : FileKind) (s : Bytes) (e i column : ℕ) → Refusal k s e i column → 1 ≤ e
refusal_numbered molfile s e i column r = at_numbered r
refusal_numbered sdfile s e i column r = none_numbered r

module _ (kind : ℕ) (s : Bytes) (ta tb : List ℤ) where
  pub read_numbered : (e i column : ℕ) (ta' tb' : List ℤ) → ReadPromise kind s ta tb (RecordRead.Refused e i column) ta' tb' → 1 ≤ e
  read_numbered e i column ta' tb' p =
      by_kind kind (λ k h few. by_room_lem ta tb (λ y. refusal_numbered k s e i column ((p.reads k h y).refuses e i column refl).0) (λ n. let z = same_numbers (p.no_room few n).0 in omega (arith, z.0)))
      (λ h. let z = same_numbers (p.other_kind h).0 in omega (arith, z.0))

tells : (r : RecordRead) (q : ℕ) → ((e i column : ℕ) → r ≡ RecordRead.Refused e i column → 1 ≤ e) → read_told (read_numbers r q) ≡ r
unfolding read_numbers read_told
tells (RecordRead.Read n m chiral len lines h a b) q p = refl
tells (RecordRead.Refused e i column) q p = first_refused e (RecordRead.Read i column 0 0 0 0 0 0) (λ (n : ℕ). RecordRead.Refused n i column) (p e i column refl)

last : (r : RecordRead) (q : ℕ) → number (read_numbers r q) 9 ≡ q
unfolding read_numbers
last (RecordRead.Read n m chiral len lines h a b) q = refl
last (RecordRead.Refused e i column) q = refl

module _ (kind : ℕ) (s : Bytes) (ta tb : List ℤ) (ws : List ℕ) where
  rowed_numbered : (y : After) → RowedPromise kind s ta tb ws y → (e i column : ℕ) → y.read ≡ RecordRead.Refused e i column → 1 ≤ e
  rowed_numbered y p e i column h =
      by_kind kind
      (λ k q few. by_room_lem ta tb
      (λ room. by_rows ws (λ l. refusal_numbered k s e i column ((p.reads k q room l).0.refuses e i column (ap numbers_of h)).0) (λ l. numbered 35 (omega arith) (p.no_rows few room l).0.0))
      (λ n. numbered 2 (omega arith) (p.no_room few n).0.0))
      (λ q. numbered 1 (omega arith) (p.other_kind q).0.0)
    where
      numbered : (n : ℕ) → 1 ≤ n → numbers_of y.read ≡ refused n 0 0 → 1 ≤ e
      numbered n few q = let z = same_numbers (sym (ap numbers_of h) ∙ q) in omega (arith, z.0)

  module _ (r : Counted) (ta' tb' : List ℤ) (ws' : List ℕ) (out : List ℕ) (e : out ≡ read_numbers r.read r.asked) where
    -- the array, of the definition
    pub rowed_held : after r ta' tb' ws' ≡ rowed_of kind s ta tb ws → out ≡ read_numbers (rowed_of kind s ta tb ws).read (rowed_of kind s ta tb ws).asked
    rowed_held h = e ∙ ap (λ (y : After). read_numbers y.read y.asked) h

    told_after : RowedPromise kind s ta tb ws (after r ta' tb' ws') → after r ta' tb' ws' ≡ rowed_told out ta' tb' ws'
    told_after p =
        let f : r.read ≡ read_told out = sym (ap read_told e ∙ tells r.read r.asked (rowed_numbered (after r ta' tb' ws') p)) in
        let g : r.asked ≡ number out 9 = sym (ap (λ (a : List ℕ). number a 9) e ∙ last r.read r.asked) in
        ap (λ (x : RecordRead). record { read = x; asked = r.asked; atoms = ta'; bonds = tb'; rows = ws' }) f
        ∙ ap (λ (q : ℕ). record { read = read_told out; asked = q; atoms = ta'; bonds = tb'; rows = ws' }) g

    pub rowed_told_lem : after r ta' tb' ws' ≡ rowed_of kind s ta tb ws → RowedPromise kind s ta tb ws (after r ta' tb' ws') → rowed_told out ta' tb' ws' ≡ rowed_of kind s ta tb ws
    rowed_told_lem h p = sym (told_after p) ∙ h

    pub promise_told : RowedPromise kind s ta tb ws (after r ta' tb' ws') → RowedPromise kind s ta tb ws (rowed_told out ta' tb' ws')
    promise_told p = subst (RowedPromise kind s ta tb ws) (told_after p) p

-- ---- The first number is 0 exactly for a good record

module _ (kind : ℕ) (s : Bytes) (ta tb : List ℤ) (ws : List ℕ) (a : List ℕ) (ta' tb' : List ℤ) (ws' : List ℕ) (p : RowedPromise kind s ta tb ws (rowed_told a ta' tb' ws')) where
  told : read_told a ≡ record_told a → GoodRecord kind s ta tb ws
  told h = by_kind kind
      (λ k e few. by_room_lem ta tb
      (λ y. by_rows ws
      (λ l. let g = ((p.reads k e y l).0.accepts _).0 (ap numbers_of h) in (k, e, y, l, (g.0, g.1)))
      (λ l. accepted_refused (sym (ap numbers_of h) ∙ (p.no_rows few y l).0.0)))
      (λ n. accepted_refused (sym (ap numbers_of h) ∙ (p.no_room few n).0.0)))
      (λ e. accepted_refused (sym (ap numbers_of h) ∙ (p.other_kind e).0.0))

  kept : GoodRecord kind s ta tb ws → (n : ℕ) → read_told a ≡ RecordRead.Refused n (number a 1) (number a 2) → ⊥
  kept g n h =
      let k = g.0 in
      let x = g.4.0 in
      let w = reply_of k s x in
      accepted_refused (sym (((p.reads k g.1 g.2 g.3).0.accepts w).1 (x, g.4.1, begins_told k s x g.4.1)) ∙ ap numbers_of h)

  pub read_good : (number a 0 ≡ 0) ↔ GoodRecord kind s ta tb ws
  unfolding read_told
  read_good = zero_exactly (number a 0) (record_told a) (λ (e : ℕ). RecordRead.Refused e (number a 1) (number a 2)) told kept
