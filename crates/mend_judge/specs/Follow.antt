-- The reader's step goes with the judge's turn, with the keys of bonds alone for tables: as in the walk over a record, where tables hold the rows read so far.
use Rattle.std.specs.Prelude.{ℕ, suc, ◌+◌, ◌*◌, ◌≤◌, ◌<◌, ◌≡◌, refl, List, [], ◌++◌, true, false, length, set, replicate, ℤ, pos}
use Rattle.std.proofs.Common.{arith, length-append}
use Rattle.std.proofs.lemmas.List.{length-replicate}
use Rattle.std.proofs.Math.Seq.{take-append_seam}
use Rattle.text.specs.Text.{Line}
use Rattle.rules.specs.Forms.{Bond}
use Rattle.rules.specs.Record.{Raw, limit, atom_places, bond_places}
use Rattle.judge_pairs.specs.Taken.{pair_taken}
use Rattle.judge_line.specs.Got.{Got, got, bad}
use Rattle.line_property.specs.Listed.{places}
use Rattle.reader_tables.specs.Row.{raw_rows, bond_rows, Holds}
use Rattle.judge_file.specs.Place.{sdfile, turn_of}
use Rattle.judge_file.specs.Place as J
use Rattle.judge_file.specs.Place.{first, second, third, counts, atoms, bonds, properties, over, items, values, Turn, next}
use Rattle.judge_file.specs.WalkText.{after_lines}
use Rattle.reader_state.specs.declared.Reader.{Reader}
use Rattle.reader_state.specs.LineRead as W
use Rattle.reader_state.specs.LineRead.{Went, went_of, table_at}
use Rattle.reader_line.specs.declared.Notes.{Notes}
use Rattle.reader_line.specs.LineTaken.{headed_at, ended_at, atom_more, bond_more}
use Rattle.reader_pairs.specs.Keys.{key_of, SmallEnds}
use Rattle.reader_walk.specs.Stands as S
use Rattle.reader_walk.specs.Stands.{atoms_in, bonds_in, molecule_lines, Marks}
use Rattle.reader_walk.specs.Follow as F
use Rattle.mend_judge.specs.Standing.{Keyed, Stands}

-- ---- What is known after a line; y is the judge's turn

abbrev pub Onto : Reader → ℕ → List ℕ → List ℕ → Got Turn → Type 0
Onto r n t keys y = (q : J.Place) × (y ≡ got (next q)) × Stands r n t keys q

-- a bond line that is good but for its pair
pub record Pending (r : Reader) (n : ℕ) (t keys : List ℕ) (b : Bond) (y : Got Turn) : Type 0 where
  pub bs : List Bond
  pub keyed : Keyed n keys bs
  pub ends : SmallEnds b
  pub few : length bs < limit
  pub taken : pair_taken b bs ≡ true → y ≡ bad 11 1
  pub free : pair_taken b bs ≡ false → Onto r (n + 1) t (set keys n (key_of b)) y

-- t is the table of listed numbers after the line
abbrev pub Goes : ℕ → List ℕ → List ℕ → Got Went → Got Turn → Type 0
Goes n t keys (got (W.on r)) y = Onto r n t keys y
Goes n t keys (got (W.headed r)) y = Onto r n t keys y
Goes n t keys (got (W.atom r a)) y = Onto r n t keys y
Goes n t keys (got (W.bond r b)) y = Pending r n t keys b y
Goes n t keys (got (W.ended r)) y = Onto r n t keys y
Goes n t keys (got (W.title r name)) y = Onto r n t keys y
Goes n t keys (got (W.value r)) y = Onto r n t keys y
Goes n t keys (got (W.blank r)) y = Onto r n t keys y
Goes n t keys (got W.done) y = (x : Raw) × (y ≡ got (J.done x))
Goes n t keys (bad e column) y = y ≡ bad e column

-- ---- A table that begins with these numbers and has this room

unfoldable table : ℕ → List ℤ → List ℤ
table room vs = vs ++ replicate room (pos 0)

held : (room : ℕ) (vs : List ℤ) → Holds (table room vs) vs
unfolding table
held room vs = take-append_seam vs (replicate room (pos 0))

roomy : (room : ℕ) (vs : List ℤ) → room ≤ length (table room vs)
unfolding table
roomy room vs = omega (arith, length-append vs (replicate room (pos 0)), length-replicate {A = ℤ} room (pos 0))

-- ---- A line of a text without lines, and notes of it, for each place

abbrev notes : ℕ → J.Place → ℕ → Notes
notes n p start = record { atoms = length (atoms_in p); bonds = n; header_end = after_lines [] 0 3; items_start = start }

marked : (n : ℕ) (p : J.Place) → (i : ℕ) × (start : ℕ) × Marks [] (notes n p start) i p
marked n first = (1, 0, refl)
marked n (second h₁) = (2, 0, refl)
marked n (third h₁ h₂) = (3, 0, refl)
marked n (counts hs) = (4, 0, (refl, refl))
marked n (atoms hs c k xs) = (5 + length xs, 0, (refl, refl))
marked n (bonds hs c xs k bs) = (5 + length xs + length bs, 0, (refl, refl))
marked n (properties hs c xs bs ps) = (5 + length xs + length bs + length ps, 0, (refl, refl))
marked n (over mol) = (suc (molecule_lines mol), after_lines [] 0 (molecule_lines mol), (refl, refl, refl))
marked n (items mol is) = (0, after_lines [] 0 (molecule_lines mol), (refl, refl))
marked n (values mol is name vs) = (0, after_lines [] 0 (molecule_lines mol), (refl, refl))

-- ---- What is known there, of the keys alone

onto : {t keys : List ℕ} {ta tb : List ℤ} {i : ℕ} {y : Got Turn} (r : Reader) (m : Notes) →
    (q : J.Place) × (y ≡ got (next q)) × S.Stands sdfile [] r m t keys ta tb i q → Onto r m.bonds t keys y
onto r m o =
    let st = o.2 in (
      o.0,
      o.1,
      record {
        sd = st.sd;
        place = st.place;
        few_atoms = st.few_atoms;
        few_bonds = st.few_bonds;
        counted = st.counted;
        bonds = record { count = st.rows.bonds; bond_keys_lem = st.rows.bond_keys_lem; small = st.rows.small };
      },
    )

module _ (i n : ℕ) (p : J.Place) (l : Line) (r : Reader) (m : Notes) (t keys : List ℕ) (ta tb : List ℤ) where
  forget : (g : Got Went) (y : Got Turn) → F.Goes sdfile [] i n p l r m t keys ta tb g y → Goes m.bonds t keys g y
  forget (got (W.on r')) y o = onto r' m o
  forget (got (W.headed r')) y o = onto r' (headed_at m n) o
  forget (got (W.atom r' a)) y o = onto r' (atom_more m) o.onto
  forget (got (W.bond r' b)) y o =
      record {
        bs = o.bs;
        keyed = record { count = o.count; bond_keys_lem = o.bond_keys_lem; small = o.small };
        ends = o.ends;
        few = o.few;
        taken = o.taken;
        free = λ h. onto r' (bond_more m) (o.free h);
      }
  forget (got (W.ended r')) y o = onto r' (ended_at m n) o
  forget (got (W.title r' name)) y o = onto r' m o
  forget (got (W.value r')) y o = onto r' m o
  forget (got (W.blank r')) y o = onto r' m o
  forget (got W.done) y o = (o.0, o.1)
  forget (bad e column) y o = o

-- from where a state stands for a place
pub follow : (n : ℕ) (t keys : List ℕ) (l : Line) (r : Reader) (p : J.Place) → Stands r n t keys p → length keys ≡ limit → length t ≡ 3 * places →
    Goes n (table_at r r.place t l) keys (went_of r t l) (turn_of sdfile limit p l)
follow n t keys l r p st rk rt =
    let ta : List ℤ = table atom_places (raw_rows (atoms_in p)) in
    let tb : List ℤ = table bond_places (bond_rows (bonds_in p)) in
    let mark = marked n p in
    let m : Notes = notes n p mark.1 in
    let stands : S.Stands sdfile [] r m t keys ta tb mark.0 p =
    record {
      sd = st.sd;
      place = st.place;
      few_atoms = st.few_atoms;
      few_bonds = st.few_bonds;
      counted = st.counted;
      rows =
          record {
            atoms = refl;
            bonds = st.bonds.count;
            atom_rows_lem = held atom_places (raw_rows (atoms_in p));
            bond_rows_lem = held bond_places (bond_rows (bonds_in p));
            bond_keys_lem = st.bonds.bond_keys_lem;
            small = st.bonds.small;
          };
      marks = mark.2;
    }
    in
    forget mark.0 (after_lines [] 0 mark.0) p l r m (table_at r r.place t l) keys ta tb (went_of r t l) (turn_of sdfile limit p l)
    (F.follow sdfile [] m t keys ta tb mark.0 (after_lines [] 0 mark.0) l r p stands (roomy atom_places (raw_rows (atoms_in p))) (roomy bond_places (bond_rows (bonds_in p))) rk rt refl)
