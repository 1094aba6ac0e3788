-- Tables pass the tests exactly if the reading that they hold can be written.
use Rattle.std.specs.Prelude.{ℕ, ◌*◌, ◌-◌, ◌≤◌, ◌≡◌, ◌≢◌, ◌↔◌, List, [], map, true, ◌&&◌, ℤ, pos}
use Rattle.std.proofs.Common.{arith, ◌∙◌}
use Rattle.std.proofs.Math.Path.{ap}
use Rattle.std.proofs.Math.ListN.{length}
use Rattle.rules.specs.Forms.{ISO}
use Rattle.rules.specs.Record.{limit, NoPairTwice}
use Rattle.rules.specs.Meaning.{Reading}
use Rattle.rules.specs.Canon.{atom_row, bond_row, bond_of, canon, entries_from, WritableAtom, WritableBond, Rows, Writable}
use Rattle.rules.specs.Rows.{rows_of, rows_length}
use Rattle.writer_tables.specs.Tables.{atoms_hold, bonds_hold, masses_hold, first_repeat, is_nothing, counts_hold, tables_hold, writable_tables}
use Rattle.writer_row.specs.AgreeNumber.{left_true, right_true, and_agrees, up_agrees}
use Rattle.writer_row.specs.AgreeRow.{atom_agrees, bond_agrees}
use Rattle.writer_tables.specs.AgreeRows.{rows_agree, masses_agree}
use Rattle.writer_tables.specs.AgreePairs.{pairs_agree}

-- what the rules ask of atoms and bonds, of the rows of two tables
record Hold (n : ℕ) (ts us : List (List ℤ)) : Type 0 where
  atoms : Rows 16 (λ (t : List ℤ). WritableAtom n (atom_row t)) ts
  bonds : Rows 6 (λ (t : List ℤ). WritableBond n (bond_row t)) us
  once : NoPairTwice (map (λ (t : List ℤ). bond_of (bond_row t)) us)
  masses : entries_from ISO 1 ts ≢ [] → Rows 16 (λ (t : List ℤ). (atom_row t).mass_difference ≡ pos 0) ts

counts_agree : (n m chiral : ℕ) → (counts_hold n m chiral ≡ true) ↔ (n ≤ limit) × ((m ≤ limit) × ((2 * m ≤ n * (n - 1)) × (chiral ≤ 1)))
unfolding counts_hold
counts_agree n m chiral = and_agrees (up_agrees n limit) (and_agrees (up_agrees m limit) (and_agrees (up_agrees (2 * m) (n * (n - 1))) (up_agrees chiral 1)))

module _ (n m : ℕ) (ta tb : List ℤ) (ra : 16 * n ≤ length ta) (rb : 6 * m ≤ length tb) where
  atoms_agree : (atoms_hold n (rows_of 16 n ta) ≡ true) ↔ Rows 16 (λ (t : List ℤ). WritableAtom n (atom_row t)) (rows_of 16 n ta)
  atoms_agree = rows_agree 16 _ _ (λ t. atom_agrees n (atom_row t)) n ta ra

  bonds_agree : (bonds_hold n (rows_of 6 m tb) ≡ true) ↔ Rows 6 (λ (t : List ℤ). WritableBond n (bond_row t)) (rows_of 6 m tb)
  bonds_agree = rows_agree 6 _ _ (λ t. bond_agrees n (bond_row t)) m tb rb

  tables_agree : (tables_hold n m ta tb ≡ true) ↔ Hold n (rows_of 16 n ta) (rows_of 6 m tb)
  unfolding tables_hold
  tables_agree = (
    (λ h.
        let a = atoms_hold n (rows_of 16 n ta) in
        let once = is_nothing (first_repeat tb m) in
        let q = right_true a _ h in
        let r = right_true (bonds_hold n (rows_of 6 m tb)) _ q in
        let b = bonds_agree.0 (left_true _ (once && masses_hold (rows_of 16 n ta)) q) in
        record {
          atoms = atoms_agree.0 (left_true a _ h);
          bonds = b;
          once = (pairs_agree n m tb b).0 (left_true once (masses_hold (rows_of 16 n ta)) r);
          masses = (masses_agree n ta ra).0 (right_true once _ r);
        }),
    (λ h. rw (
      atoms_agree.1 h.atoms,
      bonds_agree.1 h.bonds,
      (pairs_agree n m tb h.bonds).1 h.once,
      (masses_agree n ta ra).1 h.masses,
    )),
  )

-- x is the reading whose atoms and bonds stand in the tables; its header lines and items are any
module _ (x : Reading) (ta tb : List ℤ) (ea : x.atoms ≡ rows_of 16 x.n ta) (eb : x.bonds ≡ rows_of 6 x.m tb) (ra : 16 * limit ≤ length ta) (rb : 6 * limit ≤ length tb) where
  sound : writable_tables x.n x.m x.chiral ta tb ≡ true → Writable limit x
  unfolding writable_tables canon
  sound h =
      let c = (counts_agree x.n x.m x.chiral).0 (left_true (counts_hold x.n x.m x.chiral) (tables_hold x.n x.m ta tb) h) in
      let t : Hold x.n x.atoms x.bonds = rw (ea, eb) ((tables_agree x.n x.m ta tb (omega arith) (omega arith)).0 (right_true (counts_hold x.n x.m x.chiral) _ h)) in
      record {
        n = c.0;
        m = c.1.0;
        pairs = c.1.1.0;
        chiral = c.1.1.1;
        n_atoms = ap length ea ∙ rows_length 16 x.n ta;
        m_bonds = ap length eb ∙ rows_length 6 x.m tb;
        atoms = t.atoms;
        bonds = t.bonds;
        no_pair_twice = t.once;
        masses = t.masses;
      }

  complete : Writable limit x → writable_tables x.n x.m x.chiral ta tb ≡ true
  unfolding writable_tables canon
  complete w =
      let t : Hold x.n x.atoms x.bonds = record { atoms = w.atoms; bonds = w.bonds; once = w.no_pair_twice; masses = w.masses } in
      let u : Hold x.n (rows_of 16 x.n ta) (rows_of 6 x.m tb) = rw (ea, eb) at t in
      rw (
        (counts_agree x.n x.m x.chiral).1 (w.n, (w.m, (w.pairs, w.chiral))),
        (tables_agree x.n x.m ta tb (omega (arith, w.n)) (omega (arith, w.m))).1 u,
      )

  pub writable_agrees : (writable_tables x.n x.m x.chiral ta tb ≡ true) ↔ Writable limit x
  writable_agrees = (sound, complete)
