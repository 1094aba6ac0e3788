-- The walk in code, with its work tables: laws for the proofs.
use Rattle.std.specs.Prelude.{ℕ, ◌+◌, ◌-◌, ◌*◌, ◌≤◌, ◌<◌, ◌^◌, ◌≡◌, refl, List, [], ◌∷◌, ◌++◌, length, take, drop, ℤ}
use Rattle.std.proofs.Math.Path.{sym, ap}
use Rattle.std.proofs.Common.{◌∙◌, subst, arith, eq-eqb, ne_eqb, Fits}
use Rattle.std.specs.Int.{w64}
use Rattle.text.specs.Text.{Bytes}
use Rattle.text.specs.Laws.{tail_is}
use Rattle.rules.specs.Record.{Raw, limit, atom_places, bond_places}
use Rattle.line_property.specs.Listed.{places}
use Rattle.line_counts_bonds.specs.declared.Counts.{Counts}
use Rattle.judge_file.specs.Place.{sdfile}
use Rattle.judge_file.specs.WalkText.{after_lines}
use Rattle.reader_end.specs.declared.Walked.{Walked}
use Rattle.reader_walk.specs.Outcome.{Outcome, whole, refused, outcome_of}
use Rattle.reader_walk.specs.Walked.{walked_by, walk_of, Left}
use Rattle.reader_cursor.specs.declared.Cursor.{Cursor}
use Rattle.reader_cursor.specs.declared.Ended.{Ended}
use Rattle.reader_cursor.specs.Walk.{fresh, past, Countable, ended_by, file_walk, stop_at}
use Rattle.reader_cursor.specs.After.{After, after_start, after_over, after_next, after_less, after_fits, after_line, after_ended}

-- ---- A step

pub fits_sum : (a b : ℕ) → a + b < 2 ^ 64 → Fits w64 (a + b)
fits_sum a b h = record { fits = omega arith }

pub stop_short : (c : Cursor) (e k column i : ℕ) → e ≡ 19 → i ≡ c.lines + k → Ended.Short c i ≡ stop_at c e k column
unfolding stop_at
stop_short c e k column i h q = rw (eq-eqb e 19 h, q)

pub stop_dead : (c : Cursor) (e k column i : ℕ) → (e ≡ 19 → ⊥) → i ≡ c.lines + k → Ended.Refused e i column ≡ stop_at c e k column
unfolding stop_at
stop_dead c e k column i h q = rw (ne_eqb e 19 h, q)

pub ruleset step_laws = (fits_sum, stop_short, stop_dead)

-- ---- The loop

-- between two records: the cursor stands after those read, and the tables have room and the lengths they had
pub record Going (s : Bytes) (ta₀ tb₀ ta tb : List ℤ) (t keys : List ℕ) (c : Cursor) : Type 0 where
  pub xs : List Raw
  pub after : After s xs c
  pub bytes : length s * 1 < 2 ^ 63
  pub atoms : atom_places ≤ length ta
  pub bonds : bond_places ≤ length tb
  pub listed : length t ≡ 3 * places
  pub keys_size : length keys ≡ limit
  pub atoms_size : length ta ≡ length ta₀
  pub bonds_size : length tb ≡ length tb₀

pub going_start : (s : Bytes) (ta tb : List ℤ) (t keys : List ℕ) (c : Cursor) → length s * 1 < 2 ^ 63 → atom_places ≤ length ta → bond_places ≤ length tb → length t ≡ 3 * places →
    length keys ≡ limit → c ≡ fresh → Going s ta tb ta tb t keys c
going_start s ta tb t keys c few ra rb rt rk e =
    record { xs = []; after = rw e (after_start s); bytes = few; atoms = ra; bonds = rb; listed = rt; keys_size = rk; atoms_size = refl; bonds_size = refl }

module _ (s : Bytes) (ta₀ tb₀ ta tb : List ℤ) (t keys : List ℕ) (c : Cursor) (g : Going s ta₀ tb₀ ta tb t keys c) where
  pub going_over : length s ≤ c.at → Ended.Over c ≡ ended_by (file_walk s)
  going_over h = sym (ap ended_by (after_over s g.xs c g.after h))

  pub going_atoms : length ta ≡ length ta₀
  going_atoms = g.atoms_size

  pub going_bonds : length tb ≡ length tb₀
  going_bonds = g.bonds_size

  module _ (some : c.at < length s) (w : Walked) (ew : w ≡ walk_of sdfile (take (length s - c.at) (drop c.at s))) where
    here : walked_by sdfile (drop c.at s) (outcome_of sdfile (drop c.at s)) ≡ w
    unfolding walk_of
    here = sym (ew ∙ ap (walk_of sdfile) (tail_is s c.at))

    module _ (cs : Counts) (len k h a b : ℕ) (q : w ≡ Walked.Whole cs len k h a b) where
      record Found : Type 0 where
        x : Raw
        is : outcome_of sdfile (drop c.at s) ≡ whole x k
        size : len ≡ after_lines (drop c.at s) 0 k

      found : Found
      found = go (outcome_of sdfile (drop c.at s)) refl (here ∙ q)
        where
          go : (o : Outcome) → outcome_of sdfile (drop c.at s) ≡ o → walked_by sdfile (drop c.at s) o ≡ Walked.Whole cs len k h a b → Found
          go (whole x j) e z =
              let jk : j ≡ k = cc in
              let le : after_lines (drop c.at s) 0 j ≡ len = cc in
              record { x = x; is = e ∙ ap (whole x) jk; size = sym le ∙ ap (after_lines (drop c.at s) 0) jk }
          go (refused e j d) o z = absurd (let z : ◌≡◌ {A = ℕ} 0 1 = cc in omega arith)

      pub going_fits : Countable c len k
      going_fits = let f = found in rw f.size (after_fits s g.xs c g.after some f.x k f.is g.bytes)

      module _ (d : Cursor) (ed : d ≡ past c len k) where
        pub going_less : length s - d.at < length s - c.at
        going_less = let f = found in rw (ed, f.size) (after_less s g.xs c g.after some f.x k f.is)

        pub going_next : (ta' tb' : List ℤ) (t' keys' : List ℕ) (o : Outcome) → Left ta ta' tb tb' t' o → length keys' ≡ limit → Going s ta₀ tb₀ ta' tb' t' keys' d
        going_next ta' tb' t' keys' o left rk =
            let f = found in
            record {
              xs = g.xs ++ (f.x ∷ []);
              after = subst (After s (g.xs ++ (f.x ∷ []))) (sym (ed ∙ ap (λ (n : ℕ). past c n k) f.size)) (after_next s g.xs c g.after some f.x k f.is);
              bytes = g.bytes;
              atoms = omega (arith, left.atoms.size, g.atoms);
              bonds = omega (arith, left.bonds.size, g.bonds);
              listed = left.size;
              keys_size = rk;
              atoms_size = left.atoms.size ∙ g.atoms_size;
              bonds_size = left.bonds.size ∙ g.bonds_size;
            }

    module _ (e k column : ℕ) (q : w ≡ Walked.Refused e k column) where
      is_refused : outcome_of sdfile (drop c.at s) ≡ refused e k column
      is_refused = go (outcome_of sdfile (drop c.at s)) refl (here ∙ q)
        where
          go : (o : Outcome) → outcome_of sdfile (drop c.at s) ≡ o → walked_by sdfile (drop c.at s) o ≡ Walked.Refused e k column → outcome_of sdfile (drop c.at s) ≡ refused e k column
          go (whole x j) o z = absurd (let z : ◌≡◌ {A = ℕ} 0 1 = cc in omega arith)
          go (refused n j d) o z =
              let r : refused n j d ≡ refused e k column = cc in
              o ∙ r

      pub going_line : c.lines + k < 2 ^ 64
      going_line = after_line s g.xs c g.after some e k column is_refused g.bytes

      pub going_stop : (r : Ended) → r ≡ stop_at c e k column → r ≡ ended_by (file_walk s)
      going_stop r h = h ∙ after_ended s g.xs c g.after some e k column is_refused

  pub left_atoms : (ta' tb' : List ℤ) (t' : List ℕ) (o : Outcome) → Left ta ta' tb tb' t' o → length ta' ≡ length ta₀
  left_atoms ta' tb' t' o left = left.atoms.size ∙ g.atoms_size

  pub left_bonds : (ta' tb' : List ℤ) (t' : List ℕ) (o : Outcome) → Left ta ta' tb tb' t' o → length tb' ≡ length tb₀
  left_bonds ta' tb' t' o left = left.bonds.size ∙ g.bonds_size

pub ruleset going_laws = (
  going_start,
  going_over,
  going_atoms,
  going_bonds,
  going_fits,
  going_less,
  going_next,
  going_line,
  going_stop,
  left_atoms,
  left_bonds,
)
