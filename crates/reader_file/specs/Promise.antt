-- What one step of a visit promises, in the words of the rules.
use Rattle.std.specs.Prelude.{ℕ, ◌+◌, ◌*◌, ◌≤◌, ◌<◌, ◌≡◌, refl, List, Bool, true, false, ltb, length, ℤ}
use Rattle.std.proofs.Common.{arith, ap, ◌∙◌, subst, ltb-true, ltb-false}
use Rattle.std.proofs.Math.Path.{sym}
use Rattle.std.proofs.Math.ListN.{drop}
use Rattle.text.specs.Text.{Bytes}
use Rattle.rules.specs.Record.{limit, atom_places, bond_places}
use Rattle.judge_file.specs.Place.{sdfile}
use Rattle.judge_file.specs.Verdict.{Verdict}
use Rattle.reader_cursor.specs.declared.Cursor.{Cursor}
use Rattle.reader_cursor.specs.Walk.{past}
use Rattle.reader_answer.specs.declared.RecordRead.{RecordRead}
use Rattle.reader_answer.specs.Read.{read_of, atoms_after, bonds_after}
use Rattle.reader_answer.specs.Promise.{Reply, Roomy, Reads}
use Rattle.reader_answer.specs.Promise as P
use Rattle.reader_answer.proofs.Promised.{promise}
use Rattle.reader_file.specs.declared.Next.{Next}
use Rattle.reader_file.specs.Next.{Within, next_by, next_at, atoms_at, bonds_at, next_on, atoms_on, bonds_on, next_of, atoms_next, bonds_next}
use Rattle.reader_file.specs.Stepping.{outside, read_there, atoms_there, bonds_there, end_next, end_atoms, end_bonds}
use Rattle.reader_file.specs.Stepping.{short_atoms, short_bonds, enough, atoms_short, atoms_beside, atoms_enough, bonds_beside, bonds_short, bonds_enough}

-- ---- What an answer says

pub data Said : Type 0 where
  found : Reply → Cursor → Said  -- a record, and the cursor past it
  end : Said
  refused : ℕ → ℕ → ℕ → Said  -- number, line of the file, column

abbrev pub numbers_of : Next → Said
numbers_of (Next.Record n m chiral bytes lines h a b d) =
    found (record { n = n; m = m; chiral = chiral; bytes = bytes; lines = lines; header_end = h; items_start_lem = a; items_end_lem = b }) d
numbers_of Next.End = end
numbers_of (Next.Refused e i column) = refused e i column

-- what the record reader says of the tail, from the file's start
abbrev pub from_here : Cursor → Verdict Reply → Said
from_here c (Verdict.accepted w) = found w (past c w.bytes w.lines)
from_here c (Verdict.refused e i column) = refused e (c.lines + i) column

-- ---- The promise

abbrev pub Untouched : Said → List ℤ → List ℤ → Next → List ℤ → List ℤ → Type 0
Untouched said ta tb r ta' tb' = (numbers_of r ≡ said) × (ta' ≡ ta) × (tb' ≡ tb)

-- tables ta and tb were lent with cursor c, r is the answer, and they are then ta' and tb'
pub record NextPromise (c : Cursor) (s : Bytes) (ta tb : List ℤ) (r : Next) (ta' tb' : List ℤ) : Type 0 where
  pub no_room : ¬ Roomy ta tb → Untouched (refused 2 0 0) ta tb r ta' tb'
  pub at_end_lem : Roomy ta tb → ¬ Within c s → Untouched end ta tb r ta' tb'
  -- the record at the front of the tail, read as the record reader promises
  pub reads : Roomy ta tb → Within c s → (w : Verdict Reply) × (numbers_of r ≡ from_here c w) × Reads sdfile (drop c.at s) ta tb w ta' tb'

-- ---- The definitions keep it

module _ (c : Cursor) (s : Bytes) (ta tb : List ℤ) where
  abbrev la : ℕ
  la = length ta

  abbrev lb : ℕ
  lb = length tb

  short : ¬ Roomy ta tb → (next_of c la lb s ≡ Next.Refused 2 0 0) × (atoms_next c lb s ta ≡ ta) × (bonds_next c la s tb ≡ tb)
  short h = go (ltb la atom_places) refl (ltb lb bond_places) refl
    where
      go : (a : Bool) → ltb la atom_places ≡ a → (b : Bool) → ltb lb bond_places ≡ b → (next_of c la lb s ≡ Next.Refused 2 0 0) × (atoms_next c lb s ta ≡ ta) × (bonds_next c la s tb ≡ tb)
      go true ea b eb =
          let f = ltb-true la atom_places ea in
          (sym (short_atoms c s la lb f), sym (atoms_short c s lb ta f), sym (bonds_beside c s la tb f))
      go false ea true eb =
          let f = ltb-false la atom_places ea in
          let g = ltb-true lb bond_places eb in
          (sym (short_bonds c s la lb f g), sym (atoms_beside c s lb ta f g), sym (bonds_short c s la tb f g))
      go false ea false eb =
          let f = ltb-false la atom_places ea in
          let g = ltb-false lb bond_places eb in
          absurd (h (record { atoms = omega (arith, f); bonds = omega (arith, g) }))

  module _ (y : Roomy ta tb) where
    room : (atom_places ≤ la) × (bond_places ≤ lb)
    room = (omega (arith, y.atoms), omega (arith, y.bonds))

    over : ¬ Within c s → (next_of c la lb s ≡ Next.End) × (atoms_next c lb s ta ≡ ta) × (bonds_next c la s tb ≡ tb)
    over h =
        let e = outside c s h in
        let z = room in (
          sym (enough c s la lb Next.End z.0 z.1 (end_next c s la lb e)),
          sym (atoms_enough c s lb ta ta z.0 z.1 (end_atoms c s lb ta e)),
          sym (bonds_enough c s la tb tb z.0 z.1 (end_bonds c s la tb e)),
        )

    there : Within c s →
        (next_of c la lb s ≡ next_by c (read_of 1 la lb (drop c.at s))) × (atoms_next c lb s ta ≡ atoms_after 1 lb (drop c.at s) ta) × (bonds_next c la s tb ≡ bonds_after 1 la (drop c.at s) tb)
    unfolding next_at atoms_at bonds_at
    there g =
        let z = room in
        let t = drop c.at s in (
          sym (enough c s la lb (next_by c (read_of 1 la lb t)) z.0 z.1 (read_there c s la lb (next_by c (read_of 1 la lb t)) g refl)),
          sym (atoms_enough c s lb ta (atoms_after 1 lb t ta) z.0 z.1 (atoms_there c s lb ta (atoms_after 1 lb t ta) g refl)),
          sym (bonds_enough c s la tb (bonds_after 1 la t tb) z.0 z.1 (bonds_there c s la tb (bonds_after 1 la t tb) g refl)),
        )

  said_here : (r : RecordRead) → numbers_of (next_by c r) ≡ from_here c (P.numbers_of r)
  said_here (RecordRead.Read n m chiral bytes lines h a b) = refl
  said_here (RecordRead.Refused e i column) = refl

  promised : (r : Next) (ta' tb' : List ℤ) → r ≡ next_of c la lb s → ta' ≡ atoms_next c lb s ta → tb' ≡ bonds_next c la s tb → NextPromise c s ta tb r ta' tb'
  promised r ta' tb' e ea eb =
      record {
        no_room = λ h. let z = short h in (ap numbers_of (e ∙ z.0), ea ∙ z.1, eb ∙ z.2);
        at_end_lem = λ y h. let z = over y h in (ap numbers_of (e ∙ z.0), ea ∙ z.1, eb ∙ z.2);
        reads = λ y g.
            let z = there y g in
            let t = drop c.at s in (
              P.numbers_of (read_of 1 la lb t),
              ap numbers_of (e ∙ z.0) ∙ said_here (read_of 1 la lb t),
              (promise t ta tb 1 (read_of 1 la lb t) ta' tb' refl (ea ∙ z.1) (eb ∙ z.2)).reads sdfile refl y,
            );
      }

  -- as the code comes to its three ends
  pub next_few_atoms : la < atom_places → NextPromise c s ta tb (Next.Refused 2 0 0) ta tb
  next_few_atoms h = promised (Next.Refused 2 0 0) ta tb (short_atoms c s la lb h) (atoms_short c s lb ta h) (bonds_beside c s la tb h)

  pub next_few_bonds : atom_places ≤ la → lb < bond_places → NextPromise c s ta tb (Next.Refused 2 0 0) ta tb
  next_few_bonds h k = promised (Next.Refused 2 0 0) ta tb (short_bonds c s la lb h k) (atoms_beside c s lb ta h k) (bonds_short c s la tb h k)

  pub next_enough : (r : Next) (ta' tb' : List ℤ) → atom_places ≤ la → bond_places ≤ lb → r ≡ next_on c la lb s → ta' ≡ atoms_on c lb s ta → tb' ≡ bonds_on c la s tb → NextPromise c s ta tb r ta' tb'
  next_enough r ta' tb' h k e ea eb = promised r ta' tb' (enough c s la lb r h k e) (atoms_enough c s lb ta ta' h k ea) (bonds_enough c s la tb tb' h k eb)

pub ruleset promise_laws = (next_few_atoms, next_few_bonds, next_enough)
