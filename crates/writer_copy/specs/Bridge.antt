-- A record that was read can be written: the tables, its header lines and its items are what a writer is handed for its reading.
use Rattle.std.specs.Prelude.{ℕ, zero, suc, ◌-◌, ◌≤◌, ◌≡◌, refl, List, [], ◌∷◌, ◌++◌, take, drop, ℤ}
use Rattle.std.proofs.Common.{arith, ap, ap₂, ◌∙◌, append_assoc, take-append-drop, take_at, drop_at}
use Rattle.std.proofs.Math.Path.{sym, subst}
use Rattle.std.proofs.Math.ListN.{length}
use Rattle.text.specs.Text.{Bytes, Line}
use Rattle.rules.specs.Record.{Raw, Molecule, Parts1to5, limit}
use Rattle.rules.specs.Meaning.{meaning}
use Rattle.rules.specs.Canon.{Rows, HeaderPart}
use Rattle.rules.specs.Rows.{rows_of}
use Rattle.reader_tables.specs.Row.{flat, Holds}
use Rattle.judge_file.specs.Place.{FileKind}
use Rattle.judge_file.specs.WalkText.{after_lines}
use Rattle.reader_walk.specs.Outcome as O
use Rattle.reader_walk.specs.Outcome.{Outcome, whole, outcome_of}
use Rattle.reader_walk.specs.Walked.{walked_by, walk_of}
use Rattle.reader_answer.specs.declared.RecordRead.{RecordRead}
use Rattle.reader_answer.specs.Read.{answered, atom_rows, bond_rows_of, RowsLeft}
use Rattle.reader_answer.specs.Promise.{Reply, numbers_of, Begins, Told}
use Rattle.reader_answer.specs.Promised.{reads}
use Rattle.reader_answer.specs.Told.{lines_of, told_reply, begins_outcome}
use Rattle.writer_record.specs.Write.{Given}
use Rattle.writer_record.specs.Promise.{Accepted}
use Rattle.writer_answer.specs.CopyPromise.{told_good}

-- ---- The tables

-- rows laid one after the other are those rows
rows_flat : (width n : ℕ) (P : List ℤ → Type 0) (rows : List (List ℤ)) (rest : List ℤ) → Rows width P rows → length rows ≡ n → rows_of width n (flat rows ++ rest) ≡ rows
unfolding rows_of flat Rows
rows_flat width zero P [] rest r e = refl
rows_flat width (suc n) P [] rest r e = absurd (omega arith)
rows_flat width zero P (t ∷ ts) rest r e = absurd (omega arith)
rows_flat width (suc n) P (t ∷ ts) rest r e =
    let a = append_assoc t (flat ts) rest in
    ap₂ ◌∷◌
    (ap (take width) a ∙ take_at t (flat ts ++ rest) width r.0.0)
    (ap (λ (z : List ℤ). rows_of width n (drop width z)) a
    ∙ ap (rows_of width n) (drop_at t (flat ts ++ rest) width r.0.0)
    ∙ rows_flat width n P ts rest r.1 (omega arith))

rows_held : (width n : ℕ) (P : List ℤ → Type 0) (rows : List (List ℤ)) (t : List ℤ) → Rows width P rows → length rows ≡ n → Holds t (flat rows) → rows_of width n t ≡ rows
rows_held width n P rows t r e h =
    let rest = drop (length (flat rows)) t in
    ap (rows_of width n) (sym (take-append-drop (length (flat rows)) t) ∙ ap (λ (z : List ℤ). z ++ rest) h) ∙ rows_flat width n P rows rest r e

-- ---- A record at the front of a text

header_part : {ls rest : List Line} {m : Molecule} → Parts1to5 limit ls m rest →
    HeaderPart (m.headers.first ∷ m.headers.second ∷ m.headers.third ∷ []) m.headers
header_part (Parts1to5.parts f g h l a b w q o) = HeaderPart.three f g h

-- ---- A reading that was refused

pub same_refused : {e i c n j d : ℕ} → RecordRead.Refused e i c ≡ RecordRead.Refused n j d → O.refused e i c ≡ O.refused n j d
same_refused h = cc

pub walked_refused : (f : FileKind) (s : Bytes) (e i c : ℕ) (o : Outcome) → answered (walked_by f s o) ≡ RecordRead.Refused e i c → o ≡ O.refused e i c
unfolding answered
walked_refused f s e i c (whole x j) q = absurd (let z : ◌≡◌ {A = ℕ} 0 1 = cc in omega arith)
walked_refused f s e i c (O.refused n j d) q = same_refused q

-- ---- What reading a record leaves

-- what a writer is handed for a record at the front of a text
abbrev pub given_of : Bytes → List ℤ → List ℤ → ℕ → ℕ → ℕ → ℕ → ℕ → ℕ → Given
given_of t ta tb n m chiral h a b =
    record { atoms = ta; bonds = tb; n = n; m = m; chiral = chiral; headers = take (h - 0) (drop 0 t); items = take (b - a) (drop a t) }

-- a record of k lines was read from the front of the text: it is handed on as its reading
pub record Front (f : FileKind) (t : Bytes) (ta tb : List ℤ) (n m chiral len k h a b : ℕ) : Type 0 where
  pub x : Raw
  pub is : outcome_of f t ≡ whole x k
  pub size : len ≡ after_lines t 0 k
  pub accepted : Accepted (given_of t ta tb n m chiral h a b) (meaning x)
  pub headers_end_lem : h ≤ length t
  pub items_start_lem : a ≤ b
  pub items_end_lem : b ≤ length t

module _ (f : FileKind) (t : Bytes) (ta₀ tb₀ ta tb : List ℤ) (p : RowsLeft ta₀ ta tb₀ tb (outcome_of f t)) (n m chiral len k h a b : ℕ)
    (q : answered (walk_of f t) ≡ RecordRead.Read n m chiral len k h a b) where
  abbrev reply : Reply
  reply = record { n = n; m = m; chiral = chiral; bytes = len; lines = k; header_end = h; items_start_lem = a; items_end_lem = b }

  abbrev found : (x : Raw) × Begins f t x × Told f t x reply
  found = ((reads f t ta₀ tb₀).accepts reply).0 (ap numbers_of q)

  lines_are : outcome_of f t ≡ whole found.0 (lines_of f found.0)
  lines_are = begins_outcome f t found.0 found.1

  handed_on : Accepted (given_of t ta tb n m chiral h a b) (meaning found.0)
  unfolding meaning
  handed_on =
      let x = found.0 in
      let d = found.2 in
      let g = told_good d in
      let na : length (meaning x).atoms ≡ n = g.writable.n_atoms ∙ sym d.n in
      let mb : length (meaning x).bonds ≡ m = g.writable.m_bonds ∙ sym d.m in
      let ha = subst (λ (o : Outcome). Holds ta (atom_rows o)) lines_are p.atom_rows_lem in
      let hb = subst (λ (o : Outcome). Holds tb (bond_rows_of o)) lines_are p.bond_rows_lem in
      let ra : rows_of 16 n ta ≡ (meaning x).atoms = rows_held 16 n _ (meaning x).atoms ta g.writable.atoms na ha in
      let rb : rows_of 6 m tb ≡ (meaning x).bonds = rows_held 6 m _ (meaning x).bonds tb g.writable.bonds mb hb in
      record {
        roomy = record { atoms = omega (arith, p.atoms.room, p.atoms.size); bonds = omega (arith, p.bonds.room, p.bonds.size) };
        tables = λ i. record {
          headers = x.molecule.headers;
          n = sym d.n i;
          m = sym d.m i;
          chiral = sym d.chiral i;
          atoms = sym ra i;
          bonds = sym rb i;
          items = x.items;
        };
        writable = g.writable;
        headers = (_, d.headers.lines, header_part d.molecule.2);
        items = (d.items.0, d.items.1.lines, d.items.2);
      }

  pub front : Front f t ta tb n m chiral len k h a b
  front =
      let x = found.0 in
      let d = found.2 in
      let e = told_reply f t x reply d in
      let lines = ap (λ (w : Reply). w.lines) e in
      record {
        x = x;
        is = lines_are ∙ ap (whole x) (sym lines);
        size = ap (λ (w : Reply). w.bytes) e ∙ ap (after_lines t 0) (sym lines);
        accepted = handed_on;
        headers_end_lem = d.headers.inside;
        items_start_lem = d.items.1.from;
        items_end_lem = d.items.1.inside;
      }
