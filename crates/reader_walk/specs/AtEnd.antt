-- The end of the lines: what the state's `finish` says there. An SDfile's record is cut short, a molfile may end after its `M  END`.
use Rattle.std.specs.Prelude.{ℕ, suc, ◌-◌, ◌≡◌, Bool, ℤ}
use Rattle.std.proofs.Common.{arith, ◌∙◌, ne_eqb}
use Rattle.std.proofs.Math.Path.{refl, sym, ap, subst}
use mathlib.Core.List.{List, [], ◌∷◌}
use Rattle.std.proofs.Math.Bool.{true, false}
use Rattle.std.proofs.Math.ListN.{length, drop, length-drop}
use Rattle.text.specs.Text.{Bytes}
use Rattle.text.specs.Find.{line_at}
use Rattle.text.specs.Cut.{Cut, line_rest}
use Rattle.text.specs.declared.LineAt.{LineAt}
use Rattle.rules.specs.Record.{limit}
use Rattle.line_counts_bonds.specs.declared.Counts.{Counts}
use Rattle.judge_file.specs.Place as J
use Rattle.judge_file.specs.Place.{FileKind, molfile, sdfile}
use Rattle.judge_file.specs.Place.{first, second, third, counts, atoms, bonds, properties, over, items, values}
use Rattle.judge_file.specs.Sound.{Sound}
use Rattle.judge_file.specs.WalkText.{after_lines}
use Rattle.reader_state.specs.declared.Reader.{Reader}
use Rattle.reader_places.specs.declared.Finish.{Finish}
use Rattle.reader_places.specs.declared.Place.{Place}
use Rattle.reader_state.specs.StateParts.{finished}
use Rattle.reader_places.specs.Places.{finished_at}
use Rattle.reader_line.specs.declared.Notes.{Notes}
use Rattle.reader_end.specs.declared.Walked.{Walked}
use Rattle.reader_end.specs.Ending.{last_of, end_walked}
use Rattle.reader_walk.specs.Outcome.{Outcome, outcome_of, end_at, record_from}
use Rattle.reader_walk.specs.Asked.{asked_from, rows_asked, end_bonds}
use Rattle.reader_line.specs.LineTaken.{counts_back}
use Rattle.reader_walk.specs.Stands.{kind_of, place_of, Rows, Counted, Marks, atoms_in, bonds_in, molecule_lines}
use Rattle.reader_walk.specs.Walked.{walked_by, walk_of, HeldBy, Left, RowsMarked}
use Rattle.reader_walk.specs.Walking.{Walking, read_asked, rows_by}

-- at every place of an SDfile lines are owed
sd_owes : (p : J.Place) → Sound sdfile limit p → finished_at (place_of p) ≡ Finish.Owes
sd_owes first h = refl
sd_owes (second h₁) h = refl
sd_owes (third h₁ h₂) h = refl
sd_owes (counts hs) h = refl
sd_owes (atoms hs x j xs) h = refl
sd_owes (bonds hs x xs j bs) h = refl
sd_owes (properties hs x xs bs ps) h = refl
sd_owes (over mol) h = absurd h
sd_owes (items mol is) h = refl
sd_owes (values mol is name vs) h = refl

module _ (s : Bytes) (r : Reader) (m : Notes) (at i : ℕ) (t keys : List ℕ) (ta tb : List ℤ) (k : ℕ) (line : i ≡ suc k) (start : after_lines s 0 k ≡ at) where
  -- bytes after the last LF
  some_left : (left : ℕ) (f : Finish) → (left ≡ 0 → ⊥) → end_walked left r m at i f ≡ Walked.Refused 19 i 1
  unfolding last_of
  some_left left Finish.MayEnd z = rw (ne_eqb left 0 z)
  some_left left Finish.Owes z = refl

  abbrev Both : J.Place → Walked → Outcome → Type 0
  Both p w o = (w ≡ walked_by molfile s o) × HeldBy ta tb t o

  -- a molfile with nothing left
  mol_ends : (p : J.Place) → Counted r.counts t p → Rows m keys ta tb (atoms_in p) (bonds_in p) → Marks s m i p →
      Both p (end_walked 0 r m at i (finished_at (place_of p))) (end_at molfile p [] i)
  unfolding last_of
  mol_ends first c rows mark = (refl, tt)
  mol_ends (second h₁) c rows mark = (refl, tt)
  mol_ends (third h₁ h₂) c rows mark = (refl, tt)
  mol_ends (counts hs) c rows mark = (refl, tt)
  mol_ends (atoms hs x j xs) c rows mark = (refl, tt)
  mol_ends (bonds hs x xs j bs) c rows mark = (refl, tt)
  mol_ends (properties hs x xs bs ps) c rows mark = (refl, tt)
  mol_ends (over mol) c rows mark =
      let ec : r.counts ≡ counts_back mol.counts = ap counts_back c.0 in
      let ea : at ≡ after_lines s 0 (i - 1) = sym start ∙ ap (after_lines s 0) (omega arith) in
      let eh : m.header_end ≡ after_lines s 0 3 = mark.1 in
      let ei : m.items_start ≡ after_lines s 0 (molecule_lines mol) = mark.2 in
      (whole_same ec ea eh ei, record { atom_rows_lem = rows.atom_rows_lem; bond_rows_lem = rows.bond_rows_lem; listed = c.1 })
    where
      whole_same : {c c' : Counts} {u u' h h' v v' : ℕ} → c ≡ c' → u ≡ u' → h ≡ h' → v ≡ v' → Walked.Whole c u (i - 1) h v v ≡ Walked.Whole c' u' (i - 1) h' v' v'
      whole_same a b c d = cc
  mol_ends (items mol is) c rows mark = (refl, tt)
  mol_ends (values mol is name vs) c rows mark = (refl, tt)

module _ (sd : Bool) (s : Bytes) (ta₀ tb₀ : List ℤ) (ws₀ : List ℕ) (r : Reader) (m : Notes) (at i : ℕ) (t keys ws : List ℕ) (ta tb : List ℤ)
    (g : Walking sd s ta₀ tb₀ ws₀ r m at i t keys ws ta tb) (l : line_at s at ≡ LineAt.Unfinished) where
  abbrev Ends : FileKind → ℕ → Finish → Bytes → Type 0
  Ends kind left f rest =
      (end_walked left r m at i f ≡ walked_by kind s (end_at kind g.p rest i)) × HeldBy ta tb t (end_at kind g.p rest i)

  ends : Ends (kind_of sd) (length s - at) (finished r) (drop at s)
  unfolding finished
  ends = subst (λ (p : Place). Ends (kind_of sd) (length s - at) (finished_at p) (drop at s)) (sym g.stands.place) (go sd g.sound (length s - at) refl (drop at s) refl)
    where
      go : (b : Bool) → Sound (kind_of b) limit g.p → (left : ℕ) → length s - at ≡ left → (rest : Bytes) → drop at s ≡ rest → Ends (kind_of b) left (finished_at (place_of g.p)) rest
      go true ok left el rest er = (ap (end_walked left r m at i) (sd_owes g.p ok), tt)
      go false ok left el [] er =
          let none : 0 ≡ left = omega (arith, ap length er, length-drop at s) in
          subst (λ (n : ℕ). Ends molfile n (finished_at (place_of g.p)) []) none
          (mol_ends s r m at i t keys ta tb g.k g.line g.start g.p g.stands.counted g.stands.rows g.stands.marks)
      go false ok left el (b ∷ rest) er =
          (some_left s r m at i t keys ta tb g.k g.line g.start left (finished_at (place_of g.p)) (λ z. omega (arith, ap length er, length-drop at s)), tt)

  end_is : outcome_of (kind_of sd) s ≡ end_at (kind_of sd) g.p (drop at s) i
  unfolding record_from
  end_is = g.same ∙ ap (λ (c : Cut). record_from (kind_of sd) g.p i c.lines c.rest) (line_rest s at l)

  pub walking_end : (y : Walked) → y ≡ end_walked (length s - at) r m at i (finished r) → y ≡ walk_of (kind_of sd) s
  unfolding walk_of
  walking_end y e = e ∙ ends.0 ∙ ap (walked_by (kind_of sd) s) (sym end_is)

  pub end_asked : (v : ℕ) → v ≡ m.bonds → v ≡ rows_asked (kind_of sd) s
  unfolding asked_from
  end_asked = read_asked sd s ta₀ tb₀ ws₀ r m at i t keys ws ta tb g (g.asks ∙ ap (λ (c : Cut). asked_from (kind_of sd) g.p c.lines) (line_rest s at l))

  pub end_rows : RowsMarked ws₀ ws (outcome_of (kind_of sd) s)
  end_rows =
      rows_by sd s ta₀ tb₀ ws₀ r m at i t keys ws ta tb g (end_at (kind_of sd) g.p (drop at s) i) end_is
      (λ x k w. end_bonds (kind_of sd) g.p (drop at s) i x k w)

  pub end_left : Left ta₀ ta tb₀ tb t (outcome_of (kind_of sd) s)
  end_left = record { atoms = g.atoms_beside; bonds = g.bonds_beside; size = g.listed_size; held = subst (HeldBy ta tb t) (sym end_is) ends.1 }

pub ruleset at_end_laws = (walking_end, end_asked, end_left, end_rows)
