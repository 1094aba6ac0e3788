-- What holds between two lines of the walk over one record, and how each line carries it on or ends the walk.
use Rattle.std.specs.Prelude.{Result, Ok, Err, ℕ, zero, suc, ◌+◌, ◌-◌, ◌*◌, ◌≤◌, ◌<◌, ◌^◌, ◌≡◌, List, [], ◌∷◌, ◌++◌, Bool, true, false, length, take, drop, set, ℤ}
use Rattle.std.proofs.Common.{arith, ap₂, ◌∙◌, subst, length-set, Fits}
use Rattle.std.proofs.Math.Path.{refl, sym, ap}
use Rattle.std.proofs.lemmas.List.Edits.{sets}
use Rattle.std.proofs.Math.Seq.{length-sets}
use Rattle.std.specs.Int.{w64}
use Rattle.text.specs.Text.{Bytes, Line}
use Rattle.text.specs.Find.{line_at}
use Rattle.text.specs.Cut.{Cut, cut, line_within, line_cut}
use Rattle.text.specs.declared.LineAt.{LineAt}
use Rattle.rules.specs.Forms as R
use Rattle.rules.specs.Record.{Raw, limit, atom_places, bond_places}
use Rattle.rules.specs.Meaning.{bond_numbers}
use Rattle.judge_pairs.specs.Taken.{pair_taken}
use Rattle.judge_line.specs.Got.{Got, got, bad, err_same}
use Rattle.judge_line.specs.Field.{elem, within}
use Rattle.judge_line.specs.Judge.{bond_of}
use Rattle.line_counts_bonds.specs.Answer.{bond_is}
use Rattle.line_counts_bonds.specs.declared.Counts.{Counts}
use Rattle.line_counts_bonds.specs.declared.Bond.{Bond}
use Rattle.line_property.specs.Listed.{places}
use Rattle.reader_tables.specs.Row.{raw_row, raw_rows, bond_rows, SmallAtom, SmallBond}
use Rattle.reader_tables.specs.Held.{drop_sets}
use Rattle.judge_file.specs.Place.{molfile, turn_of}
use Rattle.judge_file.specs.Place as J
use Rattle.judge_file.specs.Place.{first, second, third, counts, atoms, bonds, properties, over, items, values, next}
use Rattle.judge_file.specs.Sound.{Sound, sound_takes}
use Rattle.judge_file.specs.Takes.{Takes}
use Rattle.judge_file.proofs.Takes.{turn_takes}
use Rattle.judge_file.specs.WalkText.{after_lines, after_none, after_next, after_last}
use Rattle.reader_state.specs.declared.Reader.{Reader}
use Rattle.reader_state.specs.LineRead as W
use Rattle.reader_state.specs.LineRead.{Went, line_in, went_of, table_at, Sane}
use Rattle.reader_state.specs.StateParts.{begun}
use Rattle.reader_places.specs.Places.{longest_in, bonds_owed}
use Rattle.reader_places.specs.declared.Place.{Place}
use Rattle.reader_line.specs.declared.Notes.{Notes}
use Rattle.judge_line.specs.declared.Refusal.{Refusal}
use Rattle.reader_line.specs.declared.Taken.{Taken}
use Rattle.reader_end.specs.declared.Walked.{Walked}
use Rattle.reader_pairs.specs.Keys.{key_of, keys_of, SmallEnds, AllSmall, taken_keys}
use Rattle.reader_rows.specs.Says.{row_places, Says}
use Rattle.reader_rows.specs.Marked.{with_key, PairKey, marked, key_pair}
use Rattle.reader_rows.specs.Rowed.{Lent, Rowed, Fitting, rowed_start, rowed_more}
use Rattle.reader_rows.proofs.Rowed.{rowed_size, rowed_past, rowed_fits, rowed_says}
use Rattle.reader_walk.specs.Outcome.{Outcome, whole, refused, outcome_of, record_from, from_next, from_done, from_bad, outcome_from, mol_open}
use Rattle.reader_line.specs.LineTaken.{no_notes, bond_back, counts_back, headed_at, ended_at, atom_more, bond_more, taken_by, atoms_by, Ready, Took}
use Rattle.reader_walk.specs.Asked.{with_own, asked_at, asked_from, asked_of, rows_asked, asked_next, asked_done, asked_bad, asked_start, asked_is, none_own, whole_record}
use Rattle.reader_walk.specs.Stands.{is_sd, kind_of, place_of, bonds_in, Counted, Stands}
use Rattle.reader_walk.specs.Follow.{Onto, Stored, Pending, Closed, Goes, follow}
use Rattle.reader_walk.specs.Walked.{items_end, walked_by, walk_of, Beside, HeldBy, Left, MarksBy, RowsMarked}

-- ---- Positions: one line more

pub after_more : (s : Bytes) (a k at e n : ℕ) → after_lines s a k ≡ at → line_at s at ≡ LineAt.Line e n → after_lines s a (suc k) ≡ n
after_more s a zero at e n h l =
    let q : a ≡ at = sym (after_none s a) ∙ h in
    after_next s a e n 0 (ap (line_at s) q ∙ l) ∙ after_none s n
after_more s a (suc k) at e n h l = go (λ b g. after_more s b k at e n g l) (line_at s a) refl
  where
    go : ((b : ℕ) → after_lines s b k ≡ at → after_lines s b (suc k) ≡ n) → (x : LineAt) → line_at s a ≡ x → after_lines s a (suc (suc k)) ≡ n
    go r (LineAt.Line e' n') q = after_next s a e' n' (suc k) q ∙ r n' (sym (after_next s a e' n' k q) ∙ h)
    go r LineAt.Unfinished q =
        let same : a ≡ at = sym (after_last s a k q) ∙ h in
        let both : LineAt.Unfinished ≡ LineAt.Line e n = sym q ∙ ap (line_at s) same ∙ l in
        absurd (let z : ◌≡◌ {A = ℕ} 0 1 = cc in omega arith)

-- ---- Between two lines

-- line i starts at position `at`
pub record Walking (sd : Bool) (s : Bytes) (ta₀ tb₀ : List ℤ) (ws₀ : List ℕ) (r : Reader) (m : Notes) (at i : ℕ) (t keys ws : List ℕ) (ta tb : List ℤ) : Type 0 where
  pub p : J.Place
  pub stands : Stands (kind_of sd) s r m t keys ta tb i p
  pub sound : Sound (kind_of sd) limit p
  pub k : ℕ
  pub line : i ≡ suc k
  pub start : after_lines s 0 k ≡ at
  pub inside : at ≤ length s
  pub bytes : length s * 1 < 2 ^ 63
  pub lines : i ≤ at + 1
  pub key_room : length keys ≡ limit
  pub listed_size : length t ≡ 3 * places
  pub atoms_beside : Beside atom_places ta₀ ta
  pub bonds_beside : Beside bond_places tb₀ tb
  pub few_read : m.bonds ≤ limit
  pub rowed : Rowed ws₀ ws (take m.bonds keys)
  pub asks : asked_of (kind_of sd) s ≡ asked_from (kind_of sd) p (cut (drop at s)).lines
  pub same : outcome_of (kind_of sd) s ≡ record_from (kind_of sd) p i (cut (drop at s)).lines (cut (drop at s)).rest

sd_kind : (sd : Bool) → sd ≡ is_sd (kind_of sd)
sd_kind true = refl
sd_kind false = refl

pub walking_start : (sd : Bool) (s : Bytes) (r : Reader) (m : Notes) (t keys ws : List ℕ) (ta tb : List ℤ) → r ≡ begun sd → m ≡ no_notes → atom_places ≤ length ta → bond_places ≤ length tb → length keys ≡ limit →
    length t ≡ 3 * places → Lent ws → length s * 1 < 2 ^ 63 → Walking sd s ta tb ws r m 0 1 t keys ws ta tb
unfolding raw_rows bond_rows AllSmall
walking_start sd s r m t keys ws ta tb e em ra rb rk rt lent few =
    rw (e, em)
    (record {
      p = first;
      stands =
          record {
            sd = sd_kind sd;
            place = refl;
            few_atoms = omega arith;
            few_bonds = omega arith;
            counted = tt;
            rows = record { atoms = refl; bonds = refl; atom_rows_lem = refl; bond_rows_lem = refl; bond_keys_lem = refl; small = tt };
            marks = refl;
          };
      sound = tt;
      k = 0;
      line = refl;
      start = after_none s 0;
      inside = omega arith;
      bytes = few;
      lines = omega arith;
      key_room = rk;
      listed_size = rt;
      atoms_beside = record { room = ra; size = refl; past = refl };
      bonds_beside = record { room = rb; size = refl; past = refl };
      few_read = omega arith;
      rowed = rowed_start ws keys lent;
      asks = asked_start (kind_of sd) s;
      same = outcome_from (kind_of sd) s;
    })

-- a state that stands for a place is one that the reader can be in
pub counted_sane : (r : Reader) (t : List ℕ) (p : J.Place) → r.place ≡ place_of p → r.counts.atoms ≤ limit → r.counts.bonds ≤ limit → Counted r.counts t p → Sane r
counted_sane r t p e na nb c = record { owing = subst W.Owing (sym e) (owing p c); atoms = na; bonds = nb }
  where
    owing : (p : J.Place) → Counted r.counts t p → W.Owing (place_of p)
    owing first c = (omega arith, omega arith)
    owing (second h₁) c = (omega arith, omega arith)
    owing (third h₁ h₂) c = (omega arith, omega arith)
    owing (counts hs) c = tt
    owing (atoms hs x k xs) c = (omega arith, omega (arith, na, c.2, ap (λ (y : R.Counts). y.atoms) c.0))
    owing (bonds hs x xs k bs) c = (omega arith, omega (arith, nb, c.2, ap (λ (y : R.Counts). y.bonds) c.0))
    owing (properties hs x xs bs ps) c = tt
    owing (over mol) c = tt
    owing (items mol is) c = tt
    owing (values mol is name vs) c = tt

pub walking_sane : (sd : Bool) (s : Bytes) (ta₀ tb₀ : List ℤ) (ws₀ : List ℕ) (r : Reader) (m : Notes) (at i : ℕ) (t keys ws : List ℕ) (ta tb : List ℤ) →
    Walking sd s ta₀ tb₀ ws₀ r m at i t keys ws ta tb → Sane r
walking_sane sd s ta₀ tb₀ ws₀ r m at i t keys ws ta tb g =
    let st = g.stands in counted_sane r t g.p st.place st.few_atoms st.few_bonds st.counted

module _ (sd : Bool) (s : Bytes) (ta₀ tb₀ : List ℤ) (ws₀ : List ℕ) (r : Reader) (m : Notes) (at i : ℕ) (t keys ws : List ℕ) (ta tb : List ℤ)
    (g : Walking sd s ta₀ tb₀ ws₀ r m at i t keys ws ta tb) where
  -- where the bonds read are all that came to the check, a row was asked for each
  pub read_asked : asked_of (kind_of sd) s ≡ bonds_in g.p → (v : ℕ) → v ≡ m.bonds → v ≡ rows_asked (kind_of sd) s
  read_asked e v h = h ∙ g.stands.rows.bonds ∙ sym (asked_is (kind_of sd) s (bonds_in g.p) e)

  read_keys : take m.bonds keys ≡ keys_of (bonds_in g.p)
  read_keys = ap (λ (k : ℕ). take k keys) g.stands.rows.bonds ∙ g.stands.rows.bond_keys_lem

  -- after every line rows and list say the same pairs
  pub walking_says : row_places ≤ length ws₀ → Says ws (bonds_in g.p)
  walking_says room = rowed_says ws₀ ws (take m.bonds keys) g.rowed room (bonds_in g.p) g.stands.rows.small read_keys

  pub rows_by : (o : Outcome) → outcome_of (kind_of sd) s ≡ o → ((x : Raw) (k : ℕ) → o ≡ whole x k → bonds_in g.p ≡ x.molecule.bonds) →
      RowsMarked ws₀ ws (outcome_of (kind_of sd) s)
  rows_by o e f =
      record {
        size = rowed_size ws₀ ws (take m.bonds keys) g.rowed;
        past = rowed_past ws₀ ws (take m.bonds keys) g.rowed;
        marks = subst (MarksBy ws₀ ws) (sym e) (go o f);
      }
    where
      go : (o : Outcome) → ((x : Raw) (k : ℕ) → o ≡ whole x k → bonds_in g.p ≡ x.molecule.bonds) → MarksBy ws₀ ws o
      go (refused c j column) f = tt
      go (whole x k) f = g.rowed.is ∙ ap (marked ws₀) (read_keys ∙ ap keys_of (f x k refl))

-- ---- A bond line that is good but for its pair

-- r and t are the state and the table of listed numbers after it, the others are as before it; the next line starts at n
pub record Bonding (sd : Bool) (s : Bytes) (r : Reader) (m : Notes) (n i : ℕ) (t keys ws : List ℕ) (ta tb : List ℤ) (b : Bond) : Type 0 where
  pub bs : List R.Bond
  pub few : m.bonds < limit
  pub fits : SmallBond (bond_is b)
  pub key_room : length keys ≡ limit
  pub listed_size : length t ≡ 3 * places
  pub key_is : elem (key_of (bond_is b)) (take m.bonds keys) ≡ pair_taken (bond_is b) bs
  pub lines : i + 1 ≤ n + 1
  pub inside : n ≤ length s
  pub count : m.bonds ≡ length bs
  pub bond_keys_lem : take (length bs) keys ≡ keys_of bs
  pub small : AllSmall bs
  pub ends : SmallEnds (bond_is b)
  pub pair : PairKey (key_of (bond_is b))
  pub rows_fit : Fitting ws (key_of (bond_is b))
  pub asks : pair_taken (bond_is b) bs ≡ true → asked_of (kind_of sd) s ≡ bs ++ (bond_is b ∷ [])
  pub taken : pair_taken (bond_is b) bs ≡ true → outcome_of (kind_of sd) s ≡ refused 11 i 1
  pub free : pair_taken (bond_is b) bs ≡ false → (ta₀ tb₀ : List ℤ) (ws₀ : List ℕ) → Rowed ws₀ ws (take m.bonds keys) → Beside atom_places ta₀ ta → Beside bond_places tb₀ (sets tb (6 * m.bonds) (bond_numbers (bond_is b))) →
      Walking sd s ta₀ tb₀ ws₀ r (bond_more m) n (i + 1) t (set keys m.bonds (key_of (bond_is b))) (with_key ws (key_of (bond_is b))) ta (sets tb (6 * m.bonds) (bond_numbers (bond_is b)))

-- ---- A line

-- the bonds of a record that is done are the bonds read
abbrev DoneBonds : J.Place → J.Turn → Type 0
DoneBonds p (next q) = Unit {0}
DoneBonds p (J.done x) = bonds_in p ≡ x.molecule.bonds

done_bonds : {kind : J.FileKind} {p : J.Place} {l : Line} {t : J.Turn} → Takes kind limit p l t → DoneBonds p t
done_bonds (Takes.first_header h) = tt
done_bonds (Takes.second_header h) = tt
done_bonds (Takes.third_header h) = tt
done_bonds (Takes.counts_line h) = tt
done_bonds (Takes.atom_line_lem h) = tt
done_bonds (Takes.bond_line_lem h new) = tt
done_bonds (Takes.property_line h new) = tt
done_bonds (Takes.end_line h) = tt
done_bonds (Takes.data_header h) = tt
done_bonds (Takes.record_end h) = refl
done_bonds (Takes.value_line h) = tt
done_bonds (Takes.blank_line h) = tt

abbrev pub part : Bytes → ℕ → ℕ → Line
part s at e = take (e - at) (drop at s)

module _ (sd : Bool) (s : Bytes) (ta₀ tb₀ : List ℤ) (ws₀ : List ℕ) (r : Reader) (m : Notes) (at i : ℕ) (t keys ws : List ℕ) (ta tb : List ℤ)
    (g : Walking sd s ta₀ tb₀ ws₀ r m at i t keys ws ta tb) (e n : ℕ) (o : LineAt) (found : o ≡ line_at s at) (is : o ≡ LineAt.Line e n) where
  l : line_at s at ≡ LineAt.Line e n
  l = sym found ∙ is

  after : n ≡ after_lines s 0 i
  after = sym (ap (after_lines s 0) g.line ∙ after_more s 0 g.k at e n g.start l)

  split : outcome_of (kind_of sd) s ≡ record_from (kind_of sd) g.p i (part s at e ∷ (cut (drop n s)).lines) (cut (drop n s)).rest
  split = g.same ∙ ap (λ (c : Cut). record_from (kind_of sd) g.p i c.lines c.rest) (line_cut s at e n l)

  asked_split : asked_of (kind_of sd) s ≡ asked_from (kind_of sd) g.p (part s at e ∷ (cut (drop n s)).lines)
  asked_split = g.asks ∙ ap (λ (c : Cut). asked_from (kind_of sd) g.p c.lines) (line_cut s at e n l)

  goes : Goes (kind_of sd) s i n g.p (part s at e) r m (table_at r r.place t (part s at e)) keys ta tb
      (went_of r t (part s at e)) (turn_of (kind_of sd) limit g.p (part s at e))
  goes =
      follow (kind_of sd) s m t keys ta tb i n (part s at e) r g.p g.stands
      (omega (arith, g.atoms_beside.room, g.atoms_beside.size)) (omega (arith, g.bonds_beside.room, g.bonds_beside.size)) g.key_room g.listed_size after

  -- the line is taken, and another follows
  onto : (ta₁ tb₁ : List ℤ) (ws₁ : List ℕ) (r' : Reader) (m' : Notes) (t' keys' ws' : List ℕ) (ta' tb' : List ℤ) (q : J.Place) →
      turn_of (kind_of sd) limit g.p (part s at e) ≡ got (next q) → Stands (kind_of sd) s r' m' t' keys' ta' tb' (suc i) q → length keys' ≡ limit → length t' ≡ 3 * places → m'.bonds ≤ limit →
      Rowed ws₁ ws' (take m'.bonds keys') → Beside atom_places ta₁ ta' → Beside bond_places tb₁ tb' → Walking sd s ta₁ tb₁ ws₁ r' m' n (i + 1) t' keys' ws' ta' tb'
  onto ta₁ tb₁ ws₁ r' m' t' keys' ws' ta' tb' q turn st rk rt few rowed ba bb =
      let w = line_within s at e n l in
      let one : suc i ≡ i + 1 = omega arith in
      record {
        p = q;
        stands = subst (λ (j : ℕ). Stands (kind_of sd) s r' m' t' keys' ta' tb' j q) one st;
        sound = sound_takes (kind_of sd) limit g.sound (turn_takes (kind_of sd) limit g.p (part s at e) (next q) turn);
        k = i;
        line = sym one;
        start = sym after;
        inside = w.2;
        bytes = g.bytes;
        lines = omega (arith, w.0, w.1, g.lines);
        key_room = rk;
        listed_size = rt;
        atoms_beside = ba;
        bonds_beside = bb;
        few_read = few;
        rowed = rowed;
        asks = asked_split ∙ asked_next (kind_of sd) g.p q (part s at e) (cut (drop n s)).lines turn;
        same =
            split
            ∙ from_next (kind_of sd) g.p q i (part s at e) (cut (drop n s)).lines (cut (drop n s)).rest turn
            ∙ ap (λ (j : ℕ). record_from (kind_of sd) q j (cut (drop n s)).lines (cut (drop n s)).rest) one;
      }

  -- the state and the tables after a line that is not a bond's
  moved : (r' r₂ : Reader) (m' m₂ : Notes) (t' : List ℕ) (ta' ta₂ : List ℤ) → r' ≡ r₂ → m' ≡ m₂ → length t' ≡ 3 * places → t' ≡ table_at r r.place t (part s at e) → ta' ≡ ta₂ → m₂.bonds ≡ m.bonds → Beside atom_places ta₀ ta₂ →
      Onto (kind_of sd) s i keys tb r₂ m₂ (table_at r r.place t (part s at e)) ta₂ (turn_of (kind_of sd) limit g.p (part s at e)) →
      Walking sd s ta₀ tb₀ ws₀ r' m' n (i + 1) t' keys ws ta' tb
  moved r' r₂ m' m₂ t' ta' ta₂ er em rt et ea few ba o =
      rw (er, em, et, ea) (onto ta₀ tb₀ ws₀ r₂ m₂ (table_at r r.place t (part s at e)) keys ws ta₂ tb o.0 o.1 o.2 g.key_room (subst (λ (u : List ℕ). length u ≡ 3 * places) et rt) (omega (arith, g.few_read))
      (subst (λ (k : ℕ). Rowed ws₀ ws (take k keys)) (sym few) g.rowed) ba g.bonds_beside)

  row_beside : (a : R.Atom) → m.atoms < limit → Beside atom_places ta₀ (sets ta (16 * m.atoms) (raw_row a))
  row_beside a few =
      record {
        room = g.atoms_beside.room;
        size = length-sets ta (16 * m.atoms) (raw_row a) ∙ g.atoms_beside.size;
        past = drop_sets (raw_row a) ta (16 * m.atoms) atom_places (omega arith) ∙ g.atoms_beside.past;
      }

  pub walking_next : (x : Result Taken Refusal) (r' : Reader) (m' : Notes) (t' : List ℕ) (ta' : List ℤ) → Took r m n t ta (part s at e) x t' ta' → x ≡ Ok (Taken.Next r' m') → Walking sd s ta₀ tb₀ ws₀ r' m' n (i + 1) t' keys ws ta' tb
  walking_next x r' m' t' ta' k q = go (went_of r t (part s at e)) refl (sym q ∙ k.answer) k.rows goes
    where
      go : (w : Got Went) → went_of r t (part s at e) ≡ w → Ok (Taken.Next r' m') ≡ taken_by m n w → ta' ≡ atoms_by m w ta →
          Goes (kind_of sd) s i n g.p (part s at e) r m (table_at r r.place t (part s at e)) keys ta tb w (turn_of (kind_of sd) limit g.p (part s at e)) →
          Walking sd s ta₀ tb₀ ws₀ r' m' n (i + 1) t' keys ws ta' tb
      go (got (W.on r₂)) ew h ea o = moved r' r₂ m' m t' ta' ta (cc) (cc) k.size (k.kept.kept (W.on r₂) ew) ea refl g.atoms_beside o
      go (got (W.headed r₂)) ew h ea o = moved r' r₂ m' (headed_at m n) t' ta' ta (cc) (cc) k.size (k.kept.kept (W.headed r₂) ew) ea refl g.atoms_beside o
      go (got (W.atom r₂ a)) ew h ea o =
          moved r' r₂ m' (atom_more m) t' ta' (sets ta (16 * m.atoms) (raw_row a)) (cc) (cc) k.size (k.kept.kept (W.atom r₂ a) ew) ea refl (row_beside a o.few) o.onto
      go (got (W.bond r₂ b)) ew h ea o = absurd (let z : ◌≡◌ {A = ℕ} 0 1 = cc in omega arith)
      go (got (W.ended r₂)) ew h ea o = moved r' r₂ m' (ended_at m n) t' ta' ta (cc) (cc) k.size (k.kept.kept (W.ended r₂) ew) ea refl g.atoms_beside o
      go (got (W.title r₂ name)) ew h ea o = moved r' r₂ m' m t' ta' ta (cc) (cc) k.size (k.kept.kept (W.title r₂ name) ew) ea refl g.atoms_beside o
      go (got (W.value r₂)) ew h ea o = moved r' r₂ m' m t' ta' ta (cc) (cc) k.size (k.kept.kept (W.value r₂) ew) ea refl g.atoms_beside o
      go (got (W.blank r₂)) ew h ea o = moved r' r₂ m' m t' ta' ta (cc) (cc) k.size (k.kept.kept (W.blank r₂) ew) ea refl g.atoms_beside o
      go (got W.done) ew h ea o = absurd (let z : ◌≡◌ {A = ℕ} 0 1 = cc in omega arith)
      go (bad c column) ew h ea o = absurd (let z : ◌≡◌ {A = ℕ} 0 1 = cc in omega arith)

  pub walking_ready : Ready r m t ta (part s at e)
  walking_ready =
      record {
        sane = walking_sane sd s ta₀ tb₀ ws₀ r m at i t keys ws ta tb g;
        room = omega (arith, g.atoms_beside.room, g.atoms_beside.size);
        size = g.listed_size;
        fits = λ r' a q. fits r' a (subst (λ (w : Got Went). Goes (kind_of sd) s i n g.p (part s at e) r m (table_at r r.place t (part s at e)) keys ta tb w (turn_of (kind_of sd) limit g.p (part s at e))) q goes);
      }
    where
      fits : (r' : Reader) (a : R.Atom) → Stored (kind_of sd) s i keys tb r' m (table_at r r.place t (part s at e)) ta a (turn_of (kind_of sd) limit g.p (part s at e)) →
          (m.atoms < limit) × SmallAtom a
      fits r' a o = (o.few, o.fits)

  -- ---- The line is refused

  module _ (x : Result Taken Refusal) (t' : List ℕ) (ta' : List ℤ) (k : Took r m n t ta (part s at e) x t' ta') (f : Refusal) (q : x ≡ Err f) where
    record Off : Type 0 where
      went : went_of r t (part s at e) ≡ bad f.no f.column
      turn : turn_of (kind_of sd) limit g.p (part s at e) ≡ bad f.no f.column

    off : Off
    off = go (went_of r t (part s at e)) refl (sym q ∙ k.answer) goes
      where
        go : (w : Got Went) → went_of r t (part s at e) ≡ w → Err f ≡ taken_by m n w →
            Goes (kind_of sd) s i n g.p (part s at e) r m (table_at r r.place t (part s at e)) keys ta tb w (turn_of (kind_of sd) limit g.p (part s at e)) → Off
        go (got (W.on r₂)) ew h o = absurd (let z : ◌≡◌ {A = ℕ} 0 1 = cc in omega arith)
        go (got (W.headed r₂)) ew h o = absurd (let z : ◌≡◌ {A = ℕ} 0 1 = cc in omega arith)
        go (got (W.atom r₂ a)) ew h o = absurd (let z : ◌≡◌ {A = ℕ} 0 1 = cc in omega arith)
        go (got (W.bond r₂ b)) ew h o = absurd (let z : ◌≡◌ {A = ℕ} 0 1 = cc in omega arith)
        go (got (W.ended r₂)) ew h o = absurd (let z : ◌≡◌ {A = ℕ} 0 1 = cc in omega arith)
        go (got (W.title r₂ name)) ew h o = absurd (let z : ◌≡◌ {A = ℕ} 0 1 = cc in omega arith)
        go (got (W.value r₂)) ew h o = absurd (let z : ◌≡◌ {A = ℕ} 0 1 = cc in omega arith)
        go (got (W.blank r₂)) ew h o = absurd (let z : ◌≡◌ {A = ℕ} 0 1 = cc in omega arith)
        go (got W.done) ew h o = absurd (let z : ◌≡◌ {A = ℕ} 0 1 = cc in omega arith)
        go (bad c₂ column₂) ew h o =
            let ec : c₂ ≡ f.no = sym (ap (λ (e : Refusal). e.no) (err_same h)) in
            let el : column₂ ≡ f.column = sym (ap (λ (e : Refusal). e.column) (err_same h)) in
            record { went = ew ∙ ap₂ bad ec el; turn = o ∙ ap₂ bad ec el }

    stopped : outcome_of (kind_of sd) s ≡ refused f.no i f.column
    stopped = split ∙ from_bad (kind_of sd) g.p i (part s at e) (cut (drop n s)).lines (cut (drop n s)).rest f.no f.column off.turn

    -- its form is wrong, so it brings no bond to the check
    unasked : asked_at g.p (part s at e) ≡ bonds_in g.p
    unfolding went_of line_in
    unasked = go g.p g.stands.place g.stands.counted
      where
        go : (p : J.Place) → r.place ≡ place_of p → Counted r.counts t p → asked_at p (part s at e) ≡ bonds_in p
        go first ep d = refl
        go (second h₁) ep d = refl
        go (third h₁ h₂) ep d = refl
        go (counts hs) ep d = refl
        go (atoms hs x j xs) ep d = refl
        go (bonds hs x xs j bs) ep d =
            let ew = sym (ap (λ (u : Place). within (longest_in u) (part s at e) (line_in r u t (part s at e))) ep) ∙ off.went in
            ap (λ (y : R.Counts). with_own bs (within 80 (part s at e) (bond_of y.atoms (part s at e)))) (sym d.0)
            ∙ none_own 80 (part s at e) bs (bond_of r.counts.atoms (part s at e)) (W.bond (W.moved r (bonds_owed (suc j - 1)))) f.no f.column ew
        go (properties hs x xs bs ps) ep d = refl
        go (over mol) ep d = refl
        go (items mol is) ep d = refl
        go (values mol is name vs) ep d = refl

    pub refused_asked : (v : ℕ) → v ≡ m.bonds → v ≡ rows_asked (kind_of sd) s
    refused_asked =
        read_asked sd s ta₀ tb₀ ws₀ r m at i t keys ws ta tb g (asked_split ∙ asked_bad (kind_of sd) g.p (part s at e) (cut (drop n s)).lines f.no f.column off.turn ∙ unasked)

    pub refused_rows : RowsMarked ws₀ ws (outcome_of (kind_of sd) s)
    refused_rows = rows_by sd s ta₀ tb₀ ws₀ r m at i t keys ws ta tb g (refused f.no i f.column) stopped (λ x j w. absurd (let z : ◌≡◌ {A = ℕ} 0 1 = cc in omega arith))

    pub walking_refused : (w : Walked) → w ≡ Walked.Refused f.no i f.column → w ≡ walk_of (kind_of sd) s
    unfolding walk_of
    walking_refused w ew = ew ∙ sym (ap (walked_by (kind_of sd) s) stopped)

    pub refused_left : Left ta₀ ta' tb₀ tb t' (outcome_of (kind_of sd) s)
    refused_left =
        record {
          atoms = subst (Beside atom_places ta₀) (sym (k.rows ∙ same_atoms (went_of r t (part s at e)) (sym q ∙ k.answer))) g.atoms_beside;
          bonds = g.bonds_beside;
          size = k.size;
          held = subst (HeldBy ta' tb t') (sym stopped) tt;
        }
      where
        same_atoms : (w : Got Went) → Err f ≡ taken_by m n w → atoms_by m w ta ≡ ta
        same_atoms (got (W.on r₂)) h = refl
        same_atoms (got (W.headed r₂)) h = refl
        same_atoms (got (W.atom r₂ a)) h = absurd (let z : ◌≡◌ {A = ℕ} 0 1 = cc in omega arith)
        same_atoms (got (W.bond r₂ b)) h = refl
        same_atoms (got (W.ended r₂)) h = refl
        same_atoms (got (W.title r₂ name)) h = refl
        same_atoms (got (W.value r₂)) h = refl
        same_atoms (got (W.blank r₂)) h = refl
        same_atoms (got W.done) h = refl
        same_atoms (bad c₂ column₂) h = refl

  -- ---- The line is `$$$$`

  module _ (x : Result Taken Refusal) (t' : List ℕ) (ta' : List ℤ) (k : Took r m n t ta (part s at e) x t' ta') (q : x ≡ Ok Taken.Done) where
    record Over : Type 0 where
      y : Raw
      turn : turn_of (kind_of sd) limit g.p (part s at e) ≡ got (J.done y)
      closed : Closed s r m t' ta tb y
      same : ta' ≡ ta

    finished_over : Over
    finished_over = go (went_of r t (part s at e)) refl (sym q ∙ k.answer) k.rows goes
      where
        go : (w : Got Went) → went_of r t (part s at e) ≡ w → Ok Taken.Done ≡ taken_by m n w → ta' ≡ atoms_by m w ta →
            Goes (kind_of sd) s i n g.p (part s at e) r m (table_at r r.place t (part s at e)) keys ta tb w (turn_of (kind_of sd) limit g.p (part s at e)) → Over
        go (got (W.on r₂)) ew h ea o = absurd (let z : ◌≡◌ {A = ℕ} 0 1 = cc in omega arith)
        go (got (W.headed r₂)) ew h ea o = absurd (let z : ◌≡◌ {A = ℕ} 0 1 = cc in omega arith)
        go (got (W.atom r₂ a)) ew h ea o = absurd (let z : ◌≡◌ {A = ℕ} 0 1 = cc in omega arith)
        go (got (W.bond r₂ b)) ew h ea o = absurd (let z : ◌≡◌ {A = ℕ} 0 1 = cc in omega arith)
        go (got (W.ended r₂)) ew h ea o = absurd (let z : ◌≡◌ {A = ℕ} 0 1 = cc in omega arith)
        go (got (W.title r₂ name)) ew h ea o = absurd (let z : ◌≡◌ {A = ℕ} 0 1 = cc in omega arith)
        go (got (W.value r₂)) ew h ea o = absurd (let z : ◌≡◌ {A = ℕ} 0 1 = cc in omega arith)
        go (got (W.blank r₂)) ew h ea o = absurd (let z : ◌≡◌ {A = ℕ} 0 1 = cc in omega arith)
        go (got W.done) ew h ea o =
            record { y = o.0; turn = o.1; closed = subst (λ (u : List ℕ). Closed s r m u ta tb o.0) (sym (k.kept.kept W.done ew)) o.2; same = ea }
        go (bad c₂ column₂) ew h ea o = absurd (let z : ◌≡◌ {A = ℕ} 0 1 = cc in omega arith)

    over_is : outcome_of (kind_of sd) s ≡ whole finished_over.y i
    over_is = split ∙ from_done (kind_of sd) g.p finished_over.y i (part s at e) (cut (drop n s)).lines (cut (drop n s)).rest finished_over.turn

    -- the items end before the `$$$$` line
    items_end_lem : (b : Bool) (p : J.Place) (y : Raw) → Sound (kind_of b) limit p → turn_of (kind_of b) limit p (part s at e) ≡ got (J.done y) →
        at ≡ items_end (kind_of b) s y.molecule i
    items_end_lem true p y sound turn = sym g.start ∙ ap (after_lines s 0) (omega (arith, g.line))
    items_end_lem false p y sound turn = absurd (mol_open (turn_takes molfile limit p (part s at e) (J.done y) turn) sound)

    pub walking_done : (w : Walked) → w ≡ Walked.Whole r.counts n i m.header_end m.items_start at → w ≡ walk_of (kind_of sd) s
    unfolding walk_of
    walking_done w ew =
        let o = finished_over in
        let ec : r.counts ≡ counts_back o.y.molecule.counts = ap counts_back o.closed.counts in
        let ee : at ≡ items_end (kind_of sd) s o.y.molecule i = items_end_lem sd g.p o.y g.sound o.turn in
        ew ∙ whole_same ec after o.closed.headed o.closed.items ee ∙ sym (ap (walked_by (kind_of sd) s) over_is)
      where
        whole_same : {c c' : Counts} {u u' h h' v v' w w' : ℕ} → c ≡ c' → u ≡ u' → h ≡ h' → v ≡ v' → w ≡ w' → Walked.Whole c u i h v w ≡ Walked.Whole c' u' i h' v' w'
        whole_same a b c d f = cc

    over_bonds : bonds_in g.p ≡ finished_over.y.molecule.bonds
    over_bonds = done_bonds (turn_takes (kind_of sd) limit g.p (part s at e) (J.done finished_over.y) finished_over.turn)

    pub done_asked : (v : ℕ) → v ≡ m.bonds → v ≡ rows_asked (kind_of sd) s
    done_asked =
        let o = finished_over in
        read_asked sd s ta₀ tb₀ ws₀ r m at i t keys ws ta tb g
        (asked_split ∙ asked_done (kind_of sd) g.p o.y (part s at e) (cut (drop n s)).lines o.turn ∙ sym over_bonds)

    pub done_rows : RowsMarked ws₀ ws (outcome_of (kind_of sd) s)
    done_rows = rows_by sd s ta₀ tb₀ ws₀ r m at i t keys ws ta tb g (whole finished_over.y i) over_is (λ x j w. over_bonds ∙ ap (λ (z : Raw). z.molecule.bonds) (whole_record w))

    pub done_left : Left ta₀ ta' tb₀ tb t' (outcome_of (kind_of sd) s)
    done_left =
        let o = finished_over in
        rw (o.same, over_is)
        (record {
          atoms = g.atoms_beside;
          bonds = g.bonds_beside;
          size = k.size;
          held = record { atom_rows_lem = o.closed.atom_rows_lem; bond_rows_lem = o.closed.bond_rows_lem; listed = o.closed.listed };
        })

  -- ---- The line is a bond's

  module _ (x : Result Taken Refusal) (r' : Reader) (b : Bond) (t' : List ℕ) (ta' : List ℤ) (k : Took r m n t ta (part s at e) x t' ta') (q : x ≡ Ok (Taken.Bond r' b)) where
    record Pended : Type 0 where
      pending : Pending (kind_of sd) s i g.p (part s at e) keys tb r' m t' ta (bond_is b) (turn_of (kind_of sd) limit g.p (part s at e))
      same : ta' ≡ ta

    pended : Pended
    pended = go (went_of r t (part s at e)) refl (sym q ∙ k.answer) k.rows goes
      where
        go : (w : Got Went) → went_of r t (part s at e) ≡ w → Ok (Taken.Bond r' b) ≡ taken_by m n w → ta' ≡ atoms_by m w ta →
            Goes (kind_of sd) s i n g.p (part s at e) r m (table_at r r.place t (part s at e)) keys ta tb w (turn_of (kind_of sd) limit g.p (part s at e)) → Pended
        go (got (W.on r₂)) ew h ea o = absurd (let z : ◌≡◌ {A = ℕ} 0 1 = cc in omega arith)
        go (got (W.headed r₂)) ew h ea o = absurd (let z : ◌≡◌ {A = ℕ} 0 1 = cc in omega arith)
        go (got (W.atom r₂ a)) ew h ea o = absurd (let z : ◌≡◌ {A = ℕ} 0 1 = cc in omega arith)
        go (got (W.bond r₂ b₂)) ew h ea o =
            let er : r₂ ≡ r' = cc in
            let eb : bond_back b₂ ≡ b = cc in
            let eb' : b₂ ≡ bond_is b = ap bond_is eb in
            let et : table_at r r.place t (part s at e) ≡ t' = sym (k.kept.kept (W.bond r₂ b₂) ew) in
            record {
              pending = rw (sym er, sym eb', sym et) o;
              same = ea;
            }
        go (got (W.ended r₂)) ew h ea o = absurd (let z : ◌≡◌ {A = ℕ} 0 1 = cc in omega arith)
        go (got (W.title r₂ name)) ew h ea o = absurd (let z : ◌≡◌ {A = ℕ} 0 1 = cc in omega arith)
        go (got (W.value r₂)) ew h ea o = absurd (let z : ◌≡◌ {A = ℕ} 0 1 = cc in omega arith)
        go (got (W.blank r₂)) ew h ea o = absurd (let z : ◌≡◌ {A = ℕ} 0 1 = cc in omega arith)
        go (got W.done) ew h ea o = absurd (let z : ◌≡◌ {A = ℕ} 0 1 = cc in omega arith)
        go (bad c₂ column₂) ew h ea o = absurd (let z : ◌≡◌ {A = ℕ} 0 1 = cc in omega arith)

    pub bonding : Bonding sd s r' m n i t' keys ws ta' tb b
    bonding =
        let o = pended.pending in
        let w = line_within s at e n l in
        let pair = key_pair (bond_is b).first (bond_is b).second o.lows.0 o.ends.first o.lows.1 o.ends.second in
        rw pended.same
        (record {
          bs = o.bs;
          few = omega (arith, o.count, o.few);
          fits = o.fits;
          count = o.count;
          bond_keys_lem = o.bond_keys_lem;
          small = o.small;
          ends = o.ends;
          pair = pair;
          rows_fit = rowed_fits ws₀ ws (take m.bonds keys) g.rowed (key_of (bond_is b)) pair;
          asks = λ h. asked_split ∙ asked_bad (kind_of sd) g.p (part s at e) (cut (drop n s)).lines 11 1 (o.taken h) ∙ o.own;
          key_room = g.key_room;
          listed_size = k.size;
          key_is =
              ap (λ (j : ℕ). elem (key_of (bond_is b)) (take j keys)) o.count
              ∙ ap (elem (key_of (bond_is b))) o.bond_keys_lem
              ∙ taken_keys (bond_is b) o.bs o.ends o.small;
          lines = omega (arith, w.0, w.1, g.lines);
          inside = w.2;
          taken = λ h. split ∙ from_bad (kind_of sd) g.p i (part s at e) (cut (drop n s)).lines (cut (drop n s)).rest 11 1 (o.taken h);
          free = λ h ta₁ tb₁ ws₁ rowed ba bb.
              let f = o.free h in
              onto ta₁ tb₁ ws₁ r' (bond_more m) t' (set keys m.bonds (key_of (bond_is b))) (with_key ws (key_of (bond_is b))) ta (sets tb (6 * m.bonds) (bond_numbers (bond_is b))) f.0 f.1 f.2
              (length-set keys m.bonds (key_of (bond_is b)) ∙ g.key_room) k.size (omega (arith, o.count, o.few))
              (rowed_more ws₁ ws (with_key ws (key_of (bond_is b))) keys m.bonds (key_of (bond_is b)) rowed pair (omega (arith, o.count, o.few, g.key_room)) refl) ba bb;
        })

    pub bond_beside : Beside atom_places ta₀ ta'
    bond_beside = subst (Beside atom_places ta₀) (sym pended.same) g.atoms_beside

-- ---- The facts as the code has them

pub rest_is : (s : Bytes) (at : ℕ) (x : LineAt) → x ≡ line_at s at → x ≡ LineAt.Unfinished → line_at s at ≡ LineAt.Unfinished
rest_is s at x h q = sym h ∙ q

module _ (s : Bytes) (at e n : ℕ) (o : LineAt) (found : o ≡ line_at s at) (is : o ≡ LineAt.Line e n) where
  pub part_start : at ≤ e
  part_start = (line_within s at e n (sym found ∙ is)).0

  pub part_end : e ≤ length s
  part_end = let w = line_within s at e n (sym found ∙ is) in omega (arith, w.1, w.2)

  pub walking_less : length s - n < length s - at
  walking_less = let w = line_within s at e n (sym found ∙ is) in omega (arith, w.0, w.1, w.2)

atoms_length : (m : Notes) (w : Got Went) (ta : List ℤ) → length (atoms_by m w ta) ≡ length ta
atoms_length m (got (W.on r)) ta = refl
atoms_length m (got (W.headed r)) ta = refl
atoms_length m (got (W.atom r a)) ta = length-sets ta (16 * m.atoms) (raw_row a)
atoms_length m (got (W.bond r b)) ta = refl
atoms_length m (got (W.ended r)) ta = refl
atoms_length m (got (W.title r name)) ta = refl
atoms_length m (got (W.value r)) ta = refl
atoms_length m (got (W.blank r)) ta = refl
atoms_length m (got W.done) ta = refl
atoms_length m (bad e column) ta = refl

module _ (sd : Bool) (s : Bytes) (ta₀ tb₀ : List ℤ) (ws₀ : List ℕ) (r : Reader) (m : Notes) (at i : ℕ) (t keys ws : List ℕ) (ta tb : List ℤ) (g : Walking sd s ta₀ tb₀ ws₀ r m at i t keys ws ta tb) where
  pub atoms_size : length ta ≡ length ta₀
  atoms_size = g.atoms_beside.size

  pub bonds_room : bond_places ≤ length tb
  bonds_room = omega (arith, g.bonds_beside.room, g.bonds_beside.size)

  pub bonds_size : length tb ≡ length tb₀
  bonds_size = g.bonds_beside.size

  pub keys_size : length keys ≡ limit
  keys_size = g.key_room

  pub took_size : (n : ℕ) (l : Line) (x : Result Taken Refusal) (t' : List ℕ) (ta' : List ℤ) → Took r m n t ta l x t' ta' → length ta' ≡ length ta₀
  took_size n l x t' ta' k = ap length k.rows ∙ atoms_length m (went_of r t l) ta ∙ g.atoms_beside.size

  pub bonds_few : m.bonds ≤ limit
  bonds_few = g.few_read

  pub rows_size : length ws ≡ length ws₀
  rows_size = rowed_size ws₀ ws (take m.bonds keys) g.rowed

  pub fits_next : Fits w64 (i + 1)
  fits_next = record { fits = omega (arith, g.lines, g.inside, g.bytes) }

pub ruleset line_laws = (
  rest_is,
  part_start,
  part_end,
  walking_start,
  walking_ready,
  walking_next,
  walking_less,
  walking_refused,
  refused_asked,
  refused_rows,
  refused_left,
  walking_done,
  done_asked,
  done_rows,
  done_left,
  bond_beside,
  atoms_size,
  bonds_room,
  bonds_size,
  keys_size,
  took_size,
  bonds_few,
  rows_size,
  fits_next,
)
