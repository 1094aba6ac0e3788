-- Two records read and compared: laws for the code.
use Rattle.std.specs.Prelude.{ℕ, ◌-◌, ◌*◌, ◌≤◌, ◌<◌, ◌^◌, ◌≡◌, refl, List, [], length, take, drop, ℤ}
use Rattle.std.proofs.Common.{arith, sym, ap, ap₂, ◌∙◌}
use Rattle.text.specs.Text.{Bytes, Line, Lines}
use Rattle.rules.specs.Record.{Raw, Headers, Item, limit, atom_places, bond_places}
use Rattle.rules.specs.Meaning.{Reading, meaning}
use Rattle.rules.specs.Canon.{HeaderPart}
use Rattle.judge_file.specs.Place.{sdfile}
use Rattle.judge_file.specs.WalkText.{after_lines}
use Rattle.reader_walk.specs.Outcome.{whole, refused, outcome_of}
use Rattle.reader_walk.specs.Walked.{Beside, beside_same, beside_join}
use Rattle.reader_answer.specs.declared.RecordRead.{RecordRead}
use Rattle.reader_answer.specs.Read.{read_as}
use Rattle.reader_answer.specs.Promise.{Roomy}
use Rattle.reader_answer.specs.Rows.{RowsPromise}
use Rattle.reader_answer.specs.Told.{whole_raw, whole_lines}
use Rattle.writer_record.specs.Write.{Given, handed}
use Rattle.writer_record.specs.Promise.{Accepted}
use Rattle.writer_copy.specs.Bridge.{given_of, Front}
use Rattle.writer_copy.specs.WorkTables.{front, read_refused}
use Rattle.compare_rules.specs.declared.Count.{Count}
use Rattle.compare_rules.specs.Differences.{records_apart}
use Rattle.compare_rules.specs.Log.{Log, log, noted}
use Rattle.compare_items.specs.Part.{part_items}
use Rattle.compare_record.specs.declared.Numbers.{Numbers}
use Rattle.compare_record.specs.Numbers.{SmallNumbers}
use Rattle.compare_record.specs.Heads.{headers_of, headers_are, reading_of}
use Rattle.compare_files.specs.declared.Shape.{Shape}
use Rattle.compare_files.specs.declared.Taken.{Taken}
use Rattle.compare_files.specs.declared.Pair.{Pair}
use Rattle.compare_files.specs.Compare.{Work, work}
use Rattle.compare_files.specs.Promise.{Rooms}

-- ---- A record that was read

-- what is handed to a writer as a reading is what the comparison takes as that reading
headers_in : (s : Bytes) (ls : List Line) (h : Headers) → Lines s ls [] → HeaderPart ls h → headers_of s ≡ h
headers_in s ls h p (HeaderPart.three f g k) = headers_are s h p

accepted_reading : (g : Given) (x : Reading) → Accepted g x → reading_of g.headers (record { n = g.n; m = g.m; chiral = g.chiral }) g.atoms g.bonds g.items ≡ x
unfolding reading_of
accepted_reading g x a =
    ap₂ (λ (h : Headers) (is : List Item). handed g h is)
    (headers_in g.headers a.headers.0 x.headers a.headers.1 a.headers.2)
    (part_items g.items a.items.0 x.items a.items.1 a.items.2)
    ∙ sym a.tables

-- a reading as a shape
pub shape_of : RecordRead → Shape
shape_of (RecordRead.Read n m chiral len k h a b) =
    record {
      numbers = record { n = n; m = m; chiral = chiral };
      taken = record { bytes = len; lines = k };
      headers = h;
      from = a;
      to = b;
    }
shape_of (RecordRead.Refused e i c) =
    record {
      numbers = record { n = 0; m = 0; chiral = 0 };
      taken = record { bytes = 0; lines = 0 };
      headers = 0;
      from = 0;
      to = 0;
    }

pub shape_read : (x : RecordRead) (n m chiral len k h a b : ℕ) → x ≡ RecordRead.Read n m chiral len k h a b →
    ◌≡◌ {A = Shape} (record { numbers = record { n = n; m = m; chiral = chiral }; taken = record { bytes = len; lines = k }; headers = h; from = a; to = b }) (shape_of x)
unfolding shape_of
shape_read x n m chiral len k h a b q = sym (ap shape_of q)

pub shape_refused : (x : RecordRead) (e i c : ℕ) → x ≡ RecordRead.Refused e i c →
    ◌≡◌ {A = Shape} (record { numbers = record { n = 0; m = 0; chiral = 0 }; taken = record { bytes = 0; lines = 0 }; headers = 0; from = 0; to = 0 }) (shape_of x)
unfolding shape_of
shape_refused x e i c q = sym (ap shape_of q)

pub ruleset shape_laws = (shape_read, shape_refused)

-- s is the shape of a record at the front of t, whose rows stand in ta and tb
Shaped : Shape → Bytes → List ℤ → List ℤ → Type 0
Shaped s t ta tb =
    Front sdfile t ta tb s.numbers.n s.numbers.m s.numbers.chiral s.taken.bytes s.taken.lines s.headers s.from s.to

-- r is the reading of that record
pub Read : RecordRead → Bytes → List ℤ → List ℤ → Type 0
Read r t ta tb = Shaped (shape_of r) t ta tb

read_is : (t : Bytes) (ta tb ta' tb' : List ℤ) → Roomy ta tb → RowsPromise sdfile t ta tb ta' tb' → (x : Raw) (k : ℕ) → outcome_of sdfile t ≡ whole x k →
    (r : RecordRead) → r ≡ read_as sdfile (length ta) (length tb) t → Read r t ta' tb'
unfolding shape_of Shaped Read
read_is t ta tb ta' tb' y p x k o (RecordRead.Read n m chiral len j h a b) er =
    front t ta tb ta' tb' y.atoms y.bonds p (RecordRead.Read n m chiral len j h a b) er n m chiral len j h a b refl
read_is t ta tb ta' tb' y p x k o (RecordRead.Refused e i c) er =
    absurd (
    let z : whole x k ≡ refused e i c = sym o ∙ read_refused t ta tb ta' tb' y.atoms y.bonds p (RecordRead.Refused e i c) er e i c refl in
    let n : ◌≡◌ {A = ℕ} 0 1 = cc in
    omega arith)

-- ---- Two of them

-- so many bytes and lines were taken on either side, and the records' differences are noted
pub record Paired (position : ℕ) (t u : Bytes) (g : Log) (l : List ℤ) (r : Pair) : Type 0 where
  pub left : (x : Raw) (k : ℕ) → outcome_of sdfile t ≡ whole x k → (r.left.bytes ≡ after_lines t 0 k) × (r.left.lines ≡ k)
  pub right : (y : Raw) (k : ℕ) → outcome_of sdfile u ≡ whole y k → (r.right.bytes ≡ after_lines u 0 k) × (r.right.lines ≡ k)
  pub same : (x y : Raw) (k j : ℕ) → outcome_of sdfile t ≡ whole x k → outcome_of sdfile u ≡ whole y j → log l r.count ≡ noted g (records_apart position (meaning x) (meaning y))

module _ (r : RecordRead) (s : Shape) (e : s ≡ shape_of r) (t : Bytes) (ta tb : List ℤ) (p : Read r t ta tb) where
  it : Front sdfile t ta tb s.numbers.n s.numbers.m s.numbers.chiral s.taken.bytes s.taken.lines s.headers s.from s.to
  unfolding Shaped Read
  it = rw e p

  pub pair_headers : s.headers ≤ length t
  pair_headers = it.headers_end_lem

  pub pair_items : s.from ≤ s.to
  pair_items = it.items_start_lem

  pub pair_items_end : s.to ≤ length t
  pair_items_end = it.items_end_lem

  few : (s.numbers.n ≤ limit) × (s.numbers.m ≤ limit) × (s.numbers.chiral ≤ 1)
  few =
      let w = it.accepted.writable in
      let e = it.accepted.tables in
      (omega (arith, w.n, ap (λ (z : Reading). z.n) e), omega (arith, w.m, ap (λ (z : Reading). z.m) e), omega (arith, w.chiral, ap (λ (z : Reading). z.chiral) e))

  pub pair_small : SmallNumbers s.numbers
  pair_small = let f = few in record { n = omega (arith, f.0); m = omega (arith, f.1); chiral = omega (arith, f.2) }

  pub pair_atoms : 16 * s.numbers.n ≤ length ta
  pair_atoms = omega (arith, few.0, it.accepted.roomy.atoms)

  pub pair_bonds : 6 * s.numbers.m ≤ length tb
  pair_bonds = omega (arith, few.1, it.accepted.roomy.bonds)

  told : reading_of (take (s.headers - 0) (drop 0 t)) s.numbers ta tb (take (s.to - s.from) (drop s.from t)) ≡ meaning it.x
  told =
      accepted_reading
      (given_of t ta tb s.numbers.n s.numbers.m s.numbers.chiral s.headers s.from s.to)
      (meaning it.x)
      it.accepted

pub pair_done : (position : ℕ) (r r' : RecordRead) (x y : Shape) → x ≡ shape_of r → y ≡ shape_of r' → (t u : Bytes) (ta tb ua ub : List ℤ) → Read r t ta tb →
    Read r' u ua ub → (g : Log) (l : List ℤ) (c : Count) →
    log l c ≡ noted g (records_apart position
    (reading_of (take (x.headers - 0) (drop 0 t)) x.numbers ta tb (take (x.to - x.from) (drop x.from t)))
    (reading_of (take (y.headers - 0) (drop 0 u)) y.numbers ua ub (take (y.to - y.from) (drop y.from u)))) →
    Paired position t u g l (record { left = x.taken; right = y.taken; count = c })
pair_done position r r' x y e e' t u ta tb ua ub p q g l c s =
    let f = it r x e t ta tb p in
    let f' = it r' y e' u ua ub q in
    record {
      left = λ z j o. let w = whole_lines (sym f.is ∙ o) in (f.size ∙ ap (after_lines t 0) w, w);
      right = λ z j o. let w = whole_lines (sym f'.is ∙ o) in (f'.size ∙ ap (after_lines u 0) w, w);
      same = λ z z' j j' o o'.
          s ∙ ap₂ (λ (v w : Reading). noted g (records_apart position v w))
          (told r x e t ta tb p ∙ ap meaning (whole_raw (sym f.is ∙ o)))
          (told r' y e' u ua ub q ∙ ap meaning (whole_raw (sym f'.is ∙ o')));
    }

pub ruleset pair_laws = (pair_headers, pair_items, pair_items_end, pair_small, pair_atoms, pair_bonds, pair_done)

-- ---- Read and compared

-- both texts begin with a record, and the work tables have room
pub record Ready (position : ℕ) (t u : Bytes) (w : Work) : Type 0 where
  pub small : position < 2 ^ 63
  pub rooms : Rooms w
  pub x : Raw
  pub k : ℕ
  pub left : outcome_of sdfile t ≡ whole x k
  pub y : Raw
  pub j : ℕ
  pub right : outcome_of sdfile u ≡ whole y j

-- nothing of the tables w₀ changed past the limit
pub record Kept (w₀ w : Work) : Type 0 where
  pub old_atoms : Beside atom_places w₀.old_atoms w.old_atoms
  pub old_bonds : Beside bond_places w₀.old_bonds w.old_bonds
  pub new_atoms : Beside atom_places w₀.new_atoms w.new_atoms
  pub new_bonds : Beside bond_places w₀.new_bonds w.new_bonds

pub kept_same : (w : Work) → Rooms w → Kept w w
kept_same w r =
    record {
      old_atoms = beside_same atom_places w.old_atoms r.old.atoms;
      old_bonds = beside_same bond_places w.old_bonds r.old.bonds;
      new_atoms = beside_same atom_places w.new_atoms r.new.atoms;
      new_bonds = beside_same bond_places w.new_bonds r.new.bonds;
    }

pub kept_join : {w₀ w w' : Work} → Kept w₀ w → Kept w w' → Kept w₀ w'
kept_join p q =
    record {
      old_atoms = beside_join p.old_atoms q.old_atoms;
      old_bonds = beside_join p.old_bonds q.old_bonds;
      new_atoms = beside_join p.new_atoms q.new_atoms;
      new_bonds = beside_join p.new_bonds q.new_bonds;
    }

pub kept_rooms : {w₀ w : Work} → Kept w₀ w → Rooms w
kept_rooms p =
    record {
      old = record { atoms = omega (arith, p.old_atoms.room, p.old_atoms.size); bonds = omega (arith, p.old_bonds.room, p.old_bonds.size) };
      new = record { atoms = omega (arith, p.new_atoms.room, p.new_atoms.size); bonds = omega (arith, p.new_bonds.room, p.new_bonds.size) };
    }

module _ (position : ℕ) (t u : Bytes) (ta tb ua ub : List ℤ) (g : Ready position t u (work ta tb ua ub)) (ta' tb' ua' ub' : List ℤ)
    (p : RowsPromise sdfile t ta tb ta' tb') (q : RowsPromise sdfile u ua ub ua' ub') where
  pub both_kept : Kept (work ta tb ua ub) (work ta' tb' ua' ub')
  both_kept =
      let old = p.rows g.rooms.old in
      let new = q.rows g.rooms.new in
      record { old_atoms = old.atoms; old_bonds = old.bonds; new_atoms = new.atoms; new_bonds = new.bonds }

  pub both_read : (r s : RecordRead) → r ≡ read_as sdfile (length ta) (length tb) t → s ≡ read_as sdfile (length ua) (length ub) u →
      (position < 2 ^ 63) × Read r t ta' tb' × Read s u ua' ub'
  both_read r s er es = (
    g.small,
    read_is t ta tb ta' tb' g.rooms.old p g.x g.k g.left r er,
    read_is u ua ub ua' ub' g.rooms.new q g.y g.j g.right s es,
  )
