-- The reader's step goes with the judge's turn: where the state stands for a place, the same lines are taken, and the state after them stands for the place after them.
use Prim.Native.Nat.{ℕ, zero, suc, ◌+◌, ◌-◌, ◌*◌, ◌≤◌, ◌<◌}
use native.Mathlib.Omega.{arith}
use Rattle.std.specs.Prelude.{Option, Some, None, ◌≡◌, Bool, not, set, ℤ}
use Rattle.std.proofs.Math.Path.{refl, ap, subst}
use Rattle.std.proofs.Common.{sym, ap₂, ◌∙◌, take-suc-set, ne_eqb}
use mathlib.Core.List.{List, [], ◌∷◌, ◌++◌}
use Rattle.std.proofs.Math.Bool.{true, false}
use Rattle.std.proofs.Math.Dec.{leb}
use Rattle.std.proofs.Math.ListN.{length, take, length-append}
use Rattle.std.proofs.lemmas.List.Edits.{sets}
use Rattle.text.specs.Text.{Bytes, Line}
use Rattle.text.specs.Columns.{Within}
use Rattle.text.specs.Find.{bad_column}
use Rattle.rules.specs.Forms as R
use Rattle.rules.specs.Forms.{Atom, Bond, Property}
use Rattle.rules.specs.Record.{Headers, Molecule, Item, Raw, listed, limit, atom_places, bond_places}
use Rattle.rules.specs.Meaning.{bond_numbers}
use Rattle.judge_pairs.specs.Taken.{pair_taken}
use Rattle.judge_line.specs.Got.{Got, got, bad, then, need}
use Rattle.judge_line.specs.Field.{within, none_found}
use Rattle.judge_line.specs.Agree.{within_got, within_is}
use Rattle.judge_line.proofs.AgreeLine.{counts_got_lem, atom_got_lem, bond_got_lem}
use Rattle.judge_line.specs.Judge.{first_header_of, counts_of, atom_of, bond_of, property_of, item_of, value_of}
use Rattle.judge_line.specs.Judge as L
use Rattle.line_counts_bonds.specs.Answer.{counts_is}
use Rattle.line_counts_bonds.specs.declared.Counts.{Counts}
use Rattle.line_property.specs.Listed.{places, enter, emptied, seen_of}
use Rattle.line_property.specs.Proper.{Proper}
use Rattle.line_property.specs.Shown.{shows_none, shows_line, proper_line, seen_same}
use Rattle.reader_tables.specs.Row.{raw_row, raw_rows, bond_rows, Holds, SmallAtom, SmallBond}
use Rattle.reader_tables.specs.Held.{atom_held, bond_held}
use Rattle.reader_tables.specs.Small.{atom_small, bond_small}
use Rattle.judge_file.specs.Place.{FileKind, molfile, sdfile, to_atoms, to_bonds, line_of, turn_of}
use Rattle.judge_file.specs.Place as J
use Rattle.judge_file.specs.Place.{first, second, third, counts, atoms, bonds, properties, over, items, values, Turn, next}
use Rattle.judge_file.specs.WalkText.{after_lines}
use Rattle.reader_places.specs.declared.Place.{Place}
use Rattle.reader_places.specs.declared.Place.TheVariants as P
use Rattle.reader_state.specs.declared.Reader.{Reader}
use Rattle.reader_state.specs.LineRead as W
use Rattle.reader_state.specs.LineRead.{Went, moved, counted, header_in, line_in, went_of, table_at, emptied_by, entered_by}
use Rattle.reader_places.specs.Places.{bonds_owed, atoms_owed, after_end}
use Rattle.reader_line.specs.declared.Notes.{Notes}
use Rattle.reader_pairs.specs.Keys.{key_of, keys_of, SmallEnds, AllSmall, small_more}
use Rattle.reader_line.specs.LineTaken.{headed_at, ended_at, atom_more, bond_more}
use Rattle.reader_walk.specs.Asked.{with_own, asked_at}
use Rattle.reader_walk.specs.Stands.{is_sd, place_of, Rows, Listing, Counted, Headed, Marks, Stands, atoms_in, bonds_in, molecule_lines}

-- ---- Two readings of one line, by the same judge of the line

module _ (longest : ℕ) (l : Line) (R : Got Went → Got Turn → Type 0) (bads : (e column : ℕ) → R (bad e column) (bad e column)) where
  clean : (f : Option ℕ) (x : Got Went) (y : Got Turn) → (f ≡ None → R x y) → R (none_found 4 f x) (none_found 4 f y)
  clean (Some c) x y h = bads 4 c
  clean None x y h = h refl

  short_enough : (t : Bool) (x : Got Went) (y : Got Turn) → (t ≡ true → R x y) → R (need t 3 (suc longest) x) (need t 3 (suc longest) y)
  unfolding need
  short_enough true x y h = h refl
  short_enough false x y h = bads 3 (suc longest)

  both_within : (x : Got Went) (y : Got Turn) → (Within longest l → R x y) → R (within longest l x) (within longest l y)
  unfolding within need
  both_within x y h =
      short_enough (leb (length l) longest) (none_found 4 (bad_column l) x) (none_found 4 (bad_column l) y)
      (λ long. clean (bad_column l) x y (λ none. h (good long none)))
    where
      good : leb (length l) longest ≡ true → bad_column l ≡ None → Within longest l
      good long none = (within_got longest l (got l) l (rw (long, none))).0

  both_then : {A : Type 0} (g : Got A) (f : A → Got Went) (h : A → Got Turn) → (Within longest l → (a : A) → g ≡ got a → R (f a) (h a)) →
      R (within longest l (then g f)) (within longest l (then g h))
  unfolding then
  both_then {A = A} g f h k = both_within (then g f) (then g h) (λ w. go g (k w))
    where
      go : (g : Got A) → ((a : A) → g ≡ got a → R (f a) (h a)) → R (then g f) (then g h)
      go (got a) k = k a refl
      go (bad e c) k = bads e c

-- ---- What is known after a line

-- a line is taken, and the state after it stands for the place after it; y is the judge's turn
abbrev pub Onto : FileKind → Bytes → ℕ → List ℕ → List ℤ → Reader → Notes → List ℕ → List ℤ → Got Turn → Type 0
Onto kind s i keys tb r m t ta y = (q : J.Place) × (y ≡ got (next q)) × Stands kind s r m t keys ta tb (suc i) q

-- an atom line: its row is stored
pub record Stored (kind : FileKind) (s : Bytes) (i : ℕ) (keys : List ℕ) (tb : List ℤ) (r : Reader) (m : Notes) (t : List ℕ) (ta : List ℤ) (a : Atom) (y : Got Turn) : Type 0 where
  pub few : m.atoms < limit
  pub fits : SmallAtom a
  pub onto : Onto kind s i keys tb r (atom_more m) t (sets ta (16 * m.atoms) (raw_row a)) y

-- line l at place p is a bond line that is good but for its pair: 11 at column 1 if the pair is taken, else the bond is stored
pub record Pending (kind : FileKind) (s : Bytes) (i : ℕ) (p : J.Place) (l : Line) (keys : List ℕ) (tb : List ℤ) (r : Reader) (m : Notes) (t : List ℕ) (ta : List ℤ) (b : Bond) (y : Got Turn) : Type 0 where
  pub bs : List Bond
  pub read : bs ≡ bonds_in p
  pub own : asked_at p l ≡ bs ++ (b ∷ [])
  pub count : m.bonds ≡ length bs
  pub bond_keys_lem : take (length bs) keys ≡ keys_of bs
  pub small : AllSmall bs
  pub ends : SmallEnds b
  pub lows : (1 ≤ b.first) × (1 ≤ b.second)
  pub few : length bs < limit
  pub fits : SmallBond b
  pub taken : pair_taken b bs ≡ true → y ≡ bad 11 1
  pub free : pair_taken b bs ≡ false →
      (q : J.Place) × (y ≡ got (next q)) × Stands kind s r (bond_more m) t (set keys m.bonds (key_of b)) ta (sets tb (6 * m.bonds) (bond_numbers b)) (suc i) q

-- the record is done: the tables hold it
pub record Closed (s : Bytes) (r : Reader) (m : Notes) (t : List ℕ) (ta tb : List ℤ) (x : Raw) : Type 0 where
  pub counts : counts_is r.counts ≡ x.molecule.counts
  pub listed : Listing x.molecule.counts.atoms t x.molecule.properties
  pub atom_rows_lem : Holds ta (raw_rows x.molecule.atoms)
  pub bond_rows_lem : Holds tb (bond_rows x.molecule.bonds)
  pub headed : Headed s m
  pub items : m.items_start ≡ after_lines s 0 (molecule_lines x.molecule)

-- place p, r, m and the tables before line i, which is l; the next line starts at n; t is the table of listed numbers after the line
abbrev pub Goes : FileKind → Bytes → ℕ → ℕ → J.Place → Line → Reader → Notes → List ℕ → List ℕ → List ℤ → List ℤ → Got Went → Got Turn → Type 0
Goes kind s i n p l r m t keys ta tb (got (W.on r')) y = Onto kind s i keys tb r' m t ta y
Goes kind s i n p l r m t keys ta tb (got (W.headed r')) y = Onto kind s i keys tb r' (headed_at m n) t ta y
Goes kind s i n p l r m t keys ta tb (got (W.atom r' a)) y = Stored kind s i keys tb r' m t ta a y
Goes kind s i n p l r m t keys ta tb (got (W.bond r' b)) y = Pending kind s i p l keys tb r' m t ta b y
Goes kind s i n p l r m t keys ta tb (got (W.ended r')) y = Onto kind s i keys tb r' (ended_at m n) t ta y
Goes kind s i n p l r m t keys ta tb (got (W.title r' name)) y = Onto kind s i keys tb r' m t ta y
Goes kind s i n p l r m t keys ta tb (got (W.value r')) y = Onto kind s i keys tb r' m t ta y
Goes kind s i n p l r m t keys ta tb (got (W.blank r')) y = Onto kind s i keys tb r' m t ta y
Goes kind s i n p l r m t keys ta tb (got W.done) y = (x : Raw) × (y ≡ got (J.done x)) × Closed s r m t ta tb x
Goes kind s i n p l r m t keys ta tb (bad e column) y = y ≡ bad e column

-- notes of as many rows
rows_kept : (m m' : Notes) (keys : List ℕ) (ta tb : List ℤ) (xs : List Atom) (bs : List Bond) → m'.atoms ≡ m.atoms → m'.bonds ≡ m.bonds → Rows m keys ta tb xs bs → Rows m' keys ta tb xs bs
rows_kept m m' keys ta tb xs bs e f rows =
    record {
      atoms = e ∙ rows.atoms;
      bonds = f ∙ rows.bonds;
      atom_rows_lem = rows.atom_rows_lem;
      bond_rows_lem = rows.bond_rows_lem;
      bond_keys_lem = rows.bond_keys_lem;
      small = rows.small;
    }

-- ---- Lines owed

module _ (kind : FileKind) (s : Bytes) (d : Counts) (m : Notes) (t keys : List ℕ) (ta tb : List ℤ) (i : ℕ) where
  abbrev at : Place → Reader
  at p = record { sd = is_sd kind; place = p; counts = d }

  stands : (q : Place) (p : J.Place) → d.atoms ≤ limit → d.bonds ≤ limit → q ≡ place_of p → Counted d t p → Rows m keys ta tb (atoms_in p) (bonds_in p) → Marks s m i p →
      Stands kind s (at q) m t keys ta tb i p
  stands q p na nb e c rows marks =
      record { sd = refl; place = e; few_atoms = na; few_bonds = nb; counted = c; rows = rows; marks = marks }

  to_bonds_lem : (hs : Headers) (xs : List Atom) (k : ℕ) (bs : List Bond) → d.atoms ≤ limit → d.bonds ≤ limit → Listing d.atoms t [] → length bs + k ≡ d.bonds →
      Rows m keys ta tb xs bs → i ≡ 5 + length xs + length bs → Headed s m → Stands kind s (at (bonds_owed k)) m t keys ta tb i (to_bonds hs (counts_is d) xs k bs)
  unfolding to_bonds bonds_owed
  to_bonds_lem hs xs zero bs na nb sh n rows line head =
      stands (bonds_owed 0) (properties hs (counts_is d) xs bs []) na nb refl (refl, sh) rows (omega arith, head)
  to_bonds_lem hs xs (suc k) bs na nb sh n rows line head =
      stands (bonds_owed (suc k)) (bonds hs (counts_is d) xs k bs) na nb (rw (ne_eqb (suc k) 0 (λ (e : suc k ≡ 0). omega arith))) (refl, sh, n) rows (line, head)

  to_atoms_lem : (hs : Headers) (k : ℕ) (xs : List Atom) → d.atoms ≤ limit → d.bonds ≤ limit → Listing d.atoms t [] → length xs + k ≡ d.atoms →
      Rows m keys ta tb xs [] → i ≡ 5 + length xs → Headed s m → Stands kind s (at (atoms_owed k d.bonds)) m t keys ta tb i (to_atoms hs (counts_is d) k xs)
  unfolding to_atoms atoms_owed
  to_atoms_lem hs zero xs na nb sh n rows line head = to_bonds_lem hs xs d.bonds [] na nb sh (omega arith) rows (omega arith) head
  to_atoms_lem hs (suc k) xs na nb sh n rows line head =
      stands (atoms_owed (suc k) d.bonds) (atoms hs (counts_is d) k xs) na nb (rw (ne_eqb (suc k) 0 (λ (e : suc k ≡ 0). omega arith))) (refl, sh, n) rows (line, head)

-- ---- The table of listed numbers

none_listed : (n : ℕ) (t : List ℕ) → length t ≡ 3 * places → Listing n (emptied (n + 1) t) []
unfolding Proper
none_listed n t h = record { shows = shows_none n t h; proper = tt }

line_listed : (n : ℕ) (t : List ℕ) (ps : List Property) (l : Line) (p : Property) → n ≤ limit → Within 80 l → Listing n t ps →
    property_of n (seen_of n t) l ≡ got (L.property p) → Listing n (enter p.kind t p.entries) (ps ++ (p ∷ []))
line_listed n t ps l p most w g e =
    record { shows = shows_line n t ps p most g.shows g.proper l w e; proper = proper_line n t ps p most g.shows g.proper l w e }

abbrev made : Counts → Bool → Place → Reader
made d sd p = record { sd = sd; place = p; counts = d }

one_less : (k : ℕ) → k ≡ suc k - 1
one_less k = omega arith

-- ---- Every place

module _ (kind : FileKind) (s : Bytes) (m : Notes) (t keys : List ℕ) (ta tb : List ℤ) (i n : ℕ) (l : Line) where
  abbrev reader_at : J.Place → Counts → Reader
  reader_at p d = record { sd = is_sd kind; place = place_of p; counts = d }

  abbrev G : J.Place → Counts → Got Went → Got Turn → Type 0
  G p d = Goes kind s i n p l (reader_at p d) m (table_at (reader_at p d) (place_of p) t l) keys ta tb

  abbrev Statement : J.Place → Counts → Type 0
  Statement p d =
      atom_places ≤ length ta → bond_places ≤ length tb → length keys ≡ limit → length t ≡ 3 * places → n ≡ after_lines s 0 i →
      d.atoms ≤ limit → d.bonds ≤ limit → Counted d t p → Rows m keys ta tb (atoms_in p) (bonds_in p) → Marks s m i p →
      G p d (went_of (reader_at p d) t l) (turn_of kind limit p l)

  follow_first : (d : Counts) → Statement first d
  unfolding went_of line_in header_in turn_of line_of
  follow_first d ra rb rk rt after na nb c rows line =
      both_then 80 l (G first d) (λ e c. refl) (first_header_of l) (λ h. got (W.on (moved (reader_at first d) (P.Header 2)))) (λ h. got (next (second h)))
      (λ w h e. (second h, refl, record { sd = refl; place = refl; few_atoms = na; few_bonds = nb; counted = tt; rows = rows; marks = omega arith }))

  follow_second : (h₁ : Line) (d : Counts) → Statement (second h₁) d
  unfolding went_of line_in header_in turn_of line_of
  follow_second h₁ d ra rb rk rt after na nb c rows line =
      both_within 80 l (G (second h₁) d) (λ e c. refl) (got (W.on (moved (reader_at (second h₁) d) (P.Header 1)))) (got (next (third h₁ l)))
      (λ w. (third h₁ l, refl, record { sd = refl; place = refl; few_atoms = na; few_bonds = nb; counted = tt; rows = rows; marks = omega arith }))

  follow_third : (h₁ h₂ : Line) (d : Counts) → Statement (third h₁ h₂) d
  unfolding went_of line_in header_in turn_of line_of
  follow_third h₁ h₂ d ra rb rk rt after na nb c rows line =
      let hs : Headers = record { first = h₁; second = h₂; third = l } in
      let three : i ≡ 3 = line in
      both_within 80 l (G (third h₁ h₂) d) (λ e c. refl) (got (W.headed (moved (reader_at (third h₁ h₂) d) P.Counts))) (got (next (counts hs)))
      (λ w. (
        counts hs,
        refl,
        stands kind s d (headed_at m n) t keys ta tb (suc i) P.Counts (counts hs) na nb refl tt (rows_kept m (headed_at m n) keys ta tb [] [] refl refl rows)
            (omega arith, after ∙ ap (after_lines s 0) three),
      ))

  follow_counts : (hs : Headers) (d : Counts) → Statement (counts hs) d
  unfolding went_of line_in turn_of line_of
  follow_counts hs d ra rb rk rt after na nb counted rows line =
      both_then 80 l (G (counts hs) d) (λ e c. refl) (counts_of limit l) (λ c. got (W.on (W.counted (reader_at (counts hs) d) c))) (λ c. got (next (to_atoms hs c c.atoms [])))
      (λ w c e.
      let good = counts_got_lem limit l c w e in
      let d' : Counts = record { atoms = c.atoms; bonds = c.bonds; chiral = c.chiral } in (
        to_atoms hs c c.atoms [],
        refl,
        subst (λ (g : Got R.Counts). Stands kind s (W.counted (reader_at (counts hs) d) c) m (emptied_by t g) keys ta tb (suc i) (to_atoms hs c c.atoms [])) (sym e)
            (to_atoms_lem kind s d' m (emptied (c.atoms + 1) t) keys ta tb (suc i) hs c.atoms [] good.atoms.high good.bonds.high (none_listed c.atoms t rt) (omega arith) rows
            (omega (arith, line.0)) line.1),
      ))

  follow_atoms : (hs : Headers) (d : Counts) (k : ℕ) (xs : List Atom) → Statement (atoms hs (counts_is d) k xs) d
  unfolding went_of line_in turn_of line_of
  follow_atoms hs d k xs ra rb rk rt after na nb counted rows line =
      let p = atoms hs (counts_is d) k xs in
      both_then 80 l (G p d) (λ e c. refl) (atom_of d.atoms l) (λ a. got (W.atom (moved (reader_at p d) (atoms_owed (suc k - 1) d.bonds)) a))
      (λ a. got (next (to_atoms hs (counts_is d) k (xs ++ (a ∷ [])))))
      (λ w a e.
      let long : length (xs ++ (a ∷ [])) ≡ length xs + 1 = length-append xs (a ∷ []) in
      let count : m.atoms ≡ length xs = rows.atoms in
      let held = atom_held ta xs a rows.atom_rows_lem (omega (arith, counted.2)) in
      let few : length xs < limit = omega (arith, counted.2) in
      record {
        few = omega arith;
        fits = atom_small d.atoms l a (omega arith) (atom_got_lem d.atoms l a w e);
        onto = (
          to_atoms hs (counts_is d) k (xs ++ (a ∷ [])),
          refl,
          subst
              (λ (j : ℕ).
              Stands kind s (moved (reader_at p d) (atoms_owed j d.bonds)) (atom_more m) t keys (sets ta (16 * m.atoms) (raw_row a)) tb (suc i)
              (to_atoms hs (counts_is d) k (xs ++ (a ∷ []))))
              (one_less k)
              (to_atoms_lem kind s d (atom_more m) t keys (sets ta (16 * m.atoms) (raw_row a)) tb (suc i) hs k (xs ++ (a ∷ [])) na nb counted.1 (omega (arith, counted.2))
              (record {
                atoms = omega arith;
                bonds = rows.bonds;
                atom_rows_lem = subst (λ (j : ℕ). Holds (sets ta (16 * j) (raw_row a)) (raw_rows (xs ++ (a ∷ [])))) (sym count) held;
                bond_rows_lem = rows.bond_rows_lem;
                bond_keys_lem = rows.bond_keys_lem;
                small = rows.small;
              })
              (omega (arith, line.0)) line.1),
        );
      })

  -- one key more
  keys_more : (bs : List Bond) (b : Bond) → take (length bs) keys ≡ keys_of bs → length bs < length keys →
      take (length (bs ++ (b ∷ []))) (set keys (length bs) (key_of b)) ≡ keys_of (bs ++ (b ∷ []))
  keys_more bs b h room =
      let long : length (bs ++ (b ∷ [])) ≡ suc (length bs) = length-append bs (b ∷ []) ∙ omega arith in
      rw long (take-suc-set keys (length bs) (key_of b) room ∙ ap (λ (ks : List ℕ). ks ++ (key_of b ∷ [])) h ∙ sym (last bs))
    where
      last : (bs : List Bond) → keys_of (bs ++ (b ∷ [])) ≡ keys_of bs ++ (key_of b ∷ [])
      last [] = refl
      last (c ∷ bs) = ap (λ (ks : List ℕ). key_of c ∷ ks) (last bs)

  follow_bonds : (hs : Headers) (d : Counts) (xs : List Atom) (k : ℕ) (bs : List Bond) → Statement (bonds hs (counts_is d) xs k bs) d
  unfolding went_of line_in turn_of line_of need
  follow_bonds hs d xs k bs ra rb rk rt after na nb counted rows line =
      let p = bonds hs (counts_is d) xs k bs in
      both_then 80 l (G p d) (λ e c. refl) (bond_of d.atoms l) (λ b. got (W.bond (moved (reader_at p d) (bonds_owed (suc k - 1))) b))
      (λ b. need (not (pair_taken b bs)) 11 1 (got (next (to_bonds hs (counts_is d) xs k (bs ++ (b ∷ []))))))
      (λ w b e.
      let good = bond_got_lem d.atoms l b w e in
      let long : length (bs ++ (b ∷ [])) ≡ length bs + 1 = length-append bs (b ∷ []) in
      let count : m.bonds ≡ length bs = rows.bonds in
      let ends : SmallEnds b = record { first = omega (arith, good.first.high); second = omega (arith, good.second.high) } in
      let few : length bs < limit = omega (arith, counted.2) in
      let held = bond_held tb bs b rows.bond_rows_lem (omega arith) in
      record {
        bs = bs;
        read = refl;
        own = ap (with_own bs) (within_is 80 l (bond_of d.atoms l) w ∙ e);
        count = count;
        bond_keys_lem = rows.bond_keys_lem;
        small = rows.small;
        ends = ends;
        lows = (good.first.low, good.second.low);
        few = few;
        fits = bond_small d.atoms l b (omega arith) good;
        taken = λ h. rw h;
        free = λ h. (
          to_bonds hs (counts_is d) xs k (bs ++ (b ∷ [])),
          rw h,
          subst
              (λ (j : ℕ).
              Stands kind s (moved (reader_at p d) (bonds_owed j)) (bond_more m) t (set keys m.bonds (key_of b)) ta (sets tb (6 * m.bonds) (bond_numbers b)) (suc i)
              (to_bonds hs (counts_is d) xs k (bs ++ (b ∷ []))))
              (one_less k)
              (to_bonds_lem kind s d (bond_more m) t (set keys m.bonds (key_of b)) ta (sets tb (6 * m.bonds) (bond_numbers b)) (suc i) hs xs k (bs ++ (b ∷ [])) na nb counted.1
              (omega (arith, counted.2))
              (record {
                atoms = rows.atoms;
                bonds = omega arith;
                atom_rows_lem = rows.atom_rows_lem;
                bond_rows_lem = subst (λ (j : ℕ). Holds (sets tb (6 * j) (bond_numbers b)) (bond_rows (bs ++ (b ∷ [])))) (sym count) held;
                bond_keys_lem = subst (λ (j : ℕ). take (length (bs ++ (b ∷ []))) (set keys j (key_of b)) ≡ keys_of (bs ++ (b ∷ []))) (sym count) (keys_more bs b rows.bond_keys_lem (omega arith));
                small = small_more bs b rows.small ends;
              })
              (omega (arith, line.0)) line.1),
        );
      })

  -- the molecule after its `M  END`
  after_end_lem : (mol : Molecule) (d : Counts) → n ≡ after_lines s 0 i → d.atoms ≤ limit → d.bonds ≤ limit → (counts_is d ≡ mol.counts) × Listing mol.counts.atoms t mol.properties →
      Rows m keys ta tb mol.atoms mol.bonds → i ≡ molecule_lines mol → Headed s m → (k : FileKind) →
      Stands k s (record { sd = is_sd k; place = after_end (is_sd k); counts = d }) (ended_at m n) t keys ta tb (suc i) (J.after_end k mol)
  after_end_lem mol d after na nb c rows line head k = go k
    where
      rows' : Rows (ended_at m n) keys ta tb mol.atoms mol.bonds
      rows' = rows_kept m (ended_at m n) keys ta tb mol.atoms mol.bonds refl refl rows

      start : n ≡ after_lines s 0 (molecule_lines mol)
      start = after ∙ ap (after_lines s 0) line

      go : (k : FileKind) → Stands k s (record { sd = is_sd k; place = after_end (is_sd k); counts = d }) (ended_at m n) t keys ta tb (suc i) (J.after_end k mol)
      go molfile = stands molfile s d (ended_at m n) t keys ta tb (suc i) P.Over (over mol) na nb refl c rows' (ap suc line, head, start)
      go sdfile = stands sdfile s d (ended_at m n) t keys ta tb (suc i) P.Items (items mol []) na nb refl c rows' (head, start)

  follow_properties : (hs : Headers) (d : Counts) (xs : List Atom) (bs : List Bond) (ps : List Property) → Statement (properties hs (counts_is d) xs bs ps) d
  unfolding went_of line_in turn_of line_of
  follow_properties hs d xs bs ps ra rb rk rt after na nb counted rows line =
      let p = properties hs (counts_is d) xs bs ps in
      subst
      (λ (g : Got L.PropertyOrEnd).
      G p d (within 80 l (then (property_of d.atoms (seen_of d.atoms t) l) λ v. got (W.after_property (reader_at p d) v)))
      (within 80 l (then g λ v. got (J.after_property kind hs (counts_is d) xs bs ps v))))
      (seen_same d.atoms t ps counted.1.shows counted.1.proper l)
      (both_then 80 l (G p d) (λ e c. refl) (property_of d.atoms (seen_of d.atoms t) l) (λ v. got (W.after_property (reader_at p d) v))
      (λ v. got (J.after_property kind hs (counts_is d) xs bs ps v)) (λ w v e. go w v e))
    where
      p : J.Place
      p = properties hs (counts_is d) xs bs ps

      go : Within 80 l → (v : L.PropertyOrEnd) → property_of d.atoms (seen_of d.atoms t) l ≡ got v →
          G p d (got (W.after_property (reader_at p d) v)) (got (J.after_property kind hs (counts_is d) xs bs ps v))
      go w (L.property q) e =
          let long : length (ps ++ (q ∷ [])) ≡ length ps + 1 = length-append ps (q ∷ []) in (
            properties hs (counts_is d) xs bs (ps ++ (q ∷ [])),
            refl,
            subst (λ (g : Got L.PropertyOrEnd). Stands kind s (reader_at p d) m (entered_by t g) keys ta tb (suc i) (properties hs (counts_is d) xs bs (ps ++ (q ∷ [])))) (sym e)
                (stands kind s d m (enter q.kind t q.entries) keys ta tb (suc i) P.Properties (properties hs (counts_is d) xs bs (ps ++ (q ∷ []))) na nb refl
                (refl, line_listed d.atoms t ps l q na w counted.1 e) rows (omega (arith, line.0), line.1)),
          )
      go w L.last e =
          let mol : Molecule = record { headers = hs; counts = counts_is d; atoms = xs; bonds = bs; properties = ps } in (
            J.after_end kind mol,
            refl,
            subst (λ (g : Got L.PropertyOrEnd). Stands kind s (moved (reader_at p d) (after_end (is_sd kind))) (ended_at m n) (entered_by t g) keys ta tb (suc i) (J.after_end kind mol)) (sym e)
                (after_end_lem mol d after na nb (refl, counted.1) rows line.0 line.1 kind),
          )

  follow_over : (mol : Molecule) (d : Counts) → Statement (over mol) d
  unfolding went_of line_in turn_of line_of
  follow_over mol d ra rb rk rt after na nb counted rows line = both_within 80 l (G (over mol) d) (λ e c. refl) (bad 18 1) (bad 18 1) (λ w. refl)

  follow_items : (mol : Molecule) (is : List Item) (d : Counts) → Statement (items mol is) d
  unfolding went_of line_in turn_of line_of
  follow_items mol is d ra rb rk rt after na nb counted rows line =
      both_then 80 l (G p d) (λ e c. refl) (item_of l) (λ v. got (W.after_item (reader_at p d) v)) (λ v. got (J.after_item mol is v)) (λ w v e. go v)
    where
      p : J.Place
      p = items mol is

      go : (v : L.ItemOrEnd) → G p d (got (W.after_item (reader_at p d) v)) (got (J.after_item mol is v))
      go (L.title name) = (
        values mol is name [],
        refl,
        record { sd = refl; place = refl; few_atoms = na; few_bonds = nb; counted = counted; rows = rows; marks = line },
      )
      go L.close = (
        record { molecule = mol; items = is },
        refl,
        record {
          counts = counted.0;
          listed = counted.1;
          atom_rows_lem = rows.atom_rows_lem;
          bond_rows_lem = rows.bond_rows_lem;
          headed = line.0;
          items = line.1;
        },
      )

  follow_values : (mol : Molecule) (is : List Item) (name : Bytes) (vs : List Line) (d : Counts) → Statement (values mol is name vs) d
  unfolding went_of line_in turn_of line_of
  follow_values mol is name vs d ra rb rk rt after na nb counted rows line =
      both_then 200 l (G p d) (λ e c. refl) (value_of l) (λ v. got (W.after_value (reader_at p d) v)) (λ v. got (J.after_value mol is name vs l v)) (λ w v e. go v)
    where
      p : J.Place
      p = values mol is name vs

      go : (v : L.ValueOrBlank) → G p d (got (W.after_value (reader_at p d) v)) (got (J.after_value mol is name vs l v))
      go L.value = (
        values mol is name (vs ++ (l ∷ [])),
        refl,
        record { sd = refl; place = refl; few_atoms = na; few_bonds = nb; counted = counted; rows = rows; marks = line },
      )
      go L.blank = (
        items mol (is ++ (record { name = name; values = vs } ∷ [])),
        refl,
        record { sd = refl; place = refl; few_atoms = na; few_bonds = nb; counted = counted; rows = rows; marks = line },
      )

  follow_at : (p : J.Place) (d : Counts) → Statement p d
  follow_at first d = follow_first d
  follow_at (second h₁) d = follow_second h₁ d
  follow_at (third h₁ h₂) d = follow_third h₁ h₂ d
  follow_at (counts hs) d = follow_counts hs d
  follow_at (atoms hs c k xs) d = λ ra rb rk rt after na nb counted.
      subst (λ c. Statement (atoms hs c k xs) d) counted.0 (follow_atoms hs d k xs) ra rb rk rt after na nb counted
  follow_at (bonds hs c xs k bs) d = λ ra rb rk rt after na nb counted.
      subst (λ c. Statement (bonds hs c xs k bs) d) counted.0 (follow_bonds hs d xs k bs) ra rb rk rt after na nb counted
  follow_at (properties hs c xs bs ps) d = λ ra rb rk rt after na nb counted.
      subst (λ c. Statement (properties hs c xs bs ps) d) counted.0 (follow_properties hs d xs bs ps) ra rb rk rt after na nb counted
  follow_at (over mol) d = follow_over mol d
  follow_at (items mol is) d = follow_items mol is d
  follow_at (values mol is name vs) d = follow_values mol is name vs d

  -- from where a state stands for a place
  pub follow : (r : Reader) (p : J.Place) → Stands kind s r m t keys ta tb i p → atom_places ≤ length ta → bond_places ≤ length tb → length keys ≡ limit → length t ≡ 3 * places → n ≡ after_lines s 0 i →
      Goes kind s i n p l r m (table_at r r.place t l) keys ta tb (went_of r t l) (turn_of kind limit p l)
  follow r p st ra rb rk rt after =
      let e : reader_at p r.counts ≡ r = ap₂ (made r.counts) (sym st.sd) (sym st.place) in
      subst (λ (x : Reader). Goes kind s i n p l x m (table_at x x.place t l) keys ta tb (went_of x t l) (turn_of kind limit p l)) e
      (follow_at p r.counts ra rb rk rt after st.few_atoms st.few_bonds st.counted st.rows st.marks)
