-- A good record whose rows stand in a table: the symbols of its atoms there.
use Rattle.std.specs.Prelude.{ℕ, zero, suc, ◌+◌, ◌*◌, ◌-◌, ◌≤◌, ◌≡◌, List, [], ◌∷◌, ◌++◌, Bool, true, false, get_or, drop, replicate, ℤ, pos}
use Rattle.std.proofs.Common.{arith, ap, ap₂, ◌∙◌, subst, get_or-drop}
use Rattle.std.proofs.Math.Path.{refl, sym}
use Rattle.std.proofs.Math.ListN.{length}
use Rattle.text.specs.Text.{Bytes}
use Rattle.rules.specs.Forms.{Atom}
use Rattle.rules.specs.Record.{Raw, Molecule}
use Rattle.rules.specs.Meaning.{meaning, atoms_from}
use Rattle.rules.proofs.Rewritten.{record_good}
use Rattle.reader_tables.specs.Row.{flat}
use Rattle.judge_file.specs.Place.{sdfile}
use Rattle.judge_file.specs.Verdict.{accepted}
use Rattle.judge_file.specs.SameVerdict.{accepted_refused}
use Rattle.reader_answer.specs.declared.RecordRead.{RecordRead}
use Rattle.reader_answer.specs.Read.{rows_in}
use Rattle.reader_answer.specs.Promise.{Reply, numbers_of, Begins, Told, Roomy, ReadPromise, kind_number}
use Rattle.formula_drawn.specs.Drawn.{plain, symbol_at, symbols_from}
use Rattle.formula_record.specs.Said.{symbols, room}
use Rattle.formula_record.specs.Agree.{has_room, with_room}

pub record Ready (s : Bytes) (t : List ℤ) (n : ℕ) : Type 0 where
  pub x : Raw
  pub begins : Begins sdfile s x
  pub few : n ≤ 9999
  pub rows : 16 * n ≤ length t
  pub drawn : symbols_from t 0 n ≡ symbols x.molecule.atoms

-- ---- Rows, one after the other

row_next : (t u : List ℤ) → drop 16 t ≡ u → (i : ℕ) → symbol_at t (i + 1) ≡ symbol_at u i
row_next t u e i =
    let z : 16 * (i + 1) + 3 ≡ 16 + (16 * i + 3) = omega arith in
    ap (λ (k : ℕ). plain (get_or t k (pos 0))) z ∙ ap plain (sym (get_or-drop 16 t (16 * i + 3) (pos 0))) ∙ ap (λ (x : List ℤ). symbol_at x i) e

symbols_next : (t u : List ℤ) → drop 16 t ≡ u → (i n : ℕ) → symbols_from t (i + 1) n ≡ symbols_from u i n
unfolding symbols_from
symbols_next t u e i zero = refl
symbols_next t u e i (suc n) = ap₂ ◌∷◌ (row_next t u e i) (symbols_next t u e (i + 1) n)

symbols_rows : (m : Molecule) (i : ℕ) (xs : List Atom) (rest : List ℤ) → symbols_from (flat (atoms_from m i xs) ++ rest) 0 (length (atoms_from m i xs)) ≡ symbols xs
unfolding symbols_from flat atoms_from
symbols_rows m i [] rest = refl
symbols_rows m i (a ∷ xs) rest =
    ap (λ (ks : List ℕ). a.symbol ∷ ks)
    (symbols_next (flat (atoms_from m i (a ∷ xs)) ++ rest) (flat (atoms_from m (suc i) xs) ++ rest) refl 0 (length (atoms_from m (suc i) xs)) ∙ symbols_rows m (suc i) xs rest)

rows_length : (m : Molecule) (i : ℕ) (xs : List Atom) (rest : List ℤ) → 16 * length (atoms_from m i xs) ≤ length (flat (atoms_from m i xs) ++ rest)
unfolding flat atoms_from
rows_length m i [] rest = omega arith
rows_length m i (a ∷ xs) rest = omega (arith, rows_length m (suc i) xs rest)

rows_of : (m : Molecule) (xs : List Atom) (cap : ℕ) (ta t : List ℤ) (n : ℕ) → t ≡ rows_in cap ta (flat (atoms_from m 1 xs)) → length (atoms_from m 1 xs) ≡ n →
    (16 * n ≤ length t) × (symbols_from t 0 n ≡ symbols xs)
unfolding rows_in
rows_of m xs cap ta t n e k =
    let rest = replicate (cap - length (flat (atoms_from m 1 xs))) (pos 0) ++ drop cap ta in (
      omega (arith, ap length e, k, rows_length m 1 xs rest),
      ap (λ (z : List ℤ). symbols_from z 0 n) e ∙ ap (symbols_from (flat (atoms_from m 1 xs) ++ rest) 0) (sym k) ∙ symbols_rows m 1 xs rest,
    )

-- ---- A record that was read

pub no_room : {ta tb : List ℤ} → room (length ta) (length tb) ≡ false → Roomy ta tb → ⊥
no_room {ta} {tb} h y = let z : true ≡ false = sym (with_room ta tb y) ∙ h in let z : ◌≡◌ {A = ℕ} 0 1 = cc in omega arith

module _ (s : Bytes) (ta tb : List ℤ) (q : RecordRead) (ta' tb' : List ℤ) (p : ReadPromise 1 s ta tb q ta' tb') where
  module _ (w : Reply) (e : numbers_of q ≡ accepted w) where
    pub read_room : Roomy ta tb
    read_room = go (room (length ta) (length tb)) refl
      where
        go : (b : Bool) → room (length ta) (length tb) ≡ b → Roomy ta tb
        go true h = has_room ta tb h
        go false h = accepted_refused (sym e ∙ (p.no_room (omega arith) (λ y. no_room h y)).0)

    pub ready : Ready s ta' w.n
    unfolding meaning
    ready =
        let r = p.reads sdfile refl read_room in
        let g = (r.accepts w).0 e in
        let x = g.0 in
        let m = x.molecule in
        let good = (record_good g.1.4).writable in
        let n : length (atoms_from m 1 m.atoms) ≡ w.n = good.n_atoms ∙ sym g.2.n in
        let t = (r.rows x g.1).0 in
        record {
          x = x;
          begins = g.1;
          few = omega (arith, good.n, good.n_atoms, n);
          rows = (rows_of m m.atoms _ ta ta' w.n t n).0;
          drawn = (rows_of m m.atoms _ ta ta' w.n t n).1;
        }
