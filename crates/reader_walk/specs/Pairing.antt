-- The search for a bond's pair among the pairs before it, within the walk: a repeat ends the walk with 11, else the bond is stored and the walk goes on.
use Rattle.std.specs.Prelude.{Result, Ok, ℕ, ◌+◌, ◌-◌, ◌*◌, ◌≤◌, ◌<◌, ◌≡◌, refl, List, [], ◌∷◌, ◌++◌, Bool, true, length, get_or, take, set, ℤ}
use Rattle.std.proofs.Common.{arith, ap, ◌∙◌, subst, length-append}
use Rattle.std.proofs.Math.Path.{sym}
use Rattle.std.proofs.lemmas.List.Edits.{sets}
use Rattle.std.proofs.Math.Seq.{length-sets}
use Rattle.text.specs.Text.{Bytes}
use Rattle.text.specs.Find.{line_at}
use Rattle.text.specs.declared.LineAt.{LineAt}
use Rattle.rules.specs.Meaning.{bond_numbers}
use Rattle.rules.specs.Record.{limit, atom_places, bond_places}
use Rattle.judge_line.specs.Field.{elem}
use Rattle.judge_pairs.specs.Taken.{pair_taken}
use Rattle.judge_pairs.specs.Compared.{FirstSame}
use Rattle.line_counts_bonds.specs.Answer.{bond_is}
use Rattle.line_counts_bonds.specs.declared.Bond.{Bond}
use Rattle.reader_tables.specs.Held.{drop_sets}
use Rattle.reader_state.specs.declared.Reader.{Reader}
use Rattle.reader_line.specs.declared.Notes.{Notes}
use Rattle.judge_line.specs.declared.Refusal.{Refusal}
use Rattle.reader_line.specs.declared.Taken.{Taken}
use Rattle.reader_end.specs.declared.Walked.{Walked}
use Rattle.reader_pairs.specs.Keys.{pair_key, Searching, searching_next, searching_found, searching_end, searching_first}
use Rattle.reader_rows.specs.Marked.{with_key, PairKey}
use Rattle.reader_rows.specs.Rowed.{Rowed, Asking, Fitting}
use Rattle.reader_rows.proofs.Rowed.{rowed_size, rowed_past, rowed_asks}
use Rattle.reader_walk.specs.Outcome.{refused, outcome_of}
use Rattle.reader_walk.specs.Asked.{rows_asked, asked_is}
use Rattle.reader_line.specs.LineTaken.{bond_more, Took, Keeping}
use Rattle.reader_walk.specs.Stands.{kind_of}
use Rattle.reader_walk.specs.Walked.{walked_by, walk_of, Beside, HeldBy, Left, MarksBy, RowsMarked}
use Rattle.reader_walk.specs.Walking.{Walking, Bonding, part, bonding}

-- bonds 1 to j have been asked; `count` bonds stand before this one
pub record Pairing (sd : Bool) (s : Bytes) (r : Reader) (m : Notes) (n i : ℕ) (t keys ws : List ℕ) (ta tb : List ℤ) (b : Bond) (key count j : ℕ) : Type 0 where
  pub bond : Bonding sd s r m n i t keys ws ta tb b
  pub key_of : key ≡ pair_key b.first b.second
  pub before : count ≡ m.bonds
  pub searching : Searching keys key count j

pub pairing_start : (sd : Bool) (s : Bytes) (ta₀ tb₀ : List ℤ) (ws₀ : List ℕ) (r : Reader) (m : Notes) (at i : ℕ) (t keys ws : List ℕ) (ta tb : List ℤ)
    (g : Walking sd s ta₀ tb₀ ws₀ r m at i t keys ws ta tb) (e n : ℕ) (o : LineAt) (found : o ≡ line_at s at) (is : o ≡ LineAt.Line e n) (x : Result Taken Refusal) (r' : Reader) (b : Bond) (t' : List ℕ) (ta' : List ℤ) →
    Took r m n t ta (part s at e) x t' ta' → x ≡ Ok (Taken.Bond r' b) → (key j : ℕ) →
    key ≡ pair_key b.first b.second → Searching keys key m.bonds j → Pairing sd s r' m n i t' keys ws ta' tb b key m.bonds j
pairing_start sd s ta₀ tb₀ ws₀ r m at i t keys ws ta tb g e n o found is x r' b t' ta' k q key j ek search =
    record {
      bond = bonding sd s ta₀ tb₀ ws₀ r m at i t keys ws ta tb g e n o found is x r' b t' ta' k q;
      key_of = ek;
      before = refl;
      searching = search;
    }

module _ (sd : Bool) (s : Bytes) (ta₀ tb₀ : List ℤ) (ws₀ : List ℕ) (r : Reader) (m : Notes) (at i : ℕ) (t keys ws : List ℕ) (ta tb : List ℤ)
    (g : Walking sd s ta₀ tb₀ ws₀ r m at i t keys ws ta tb) (e n : ℕ) (o₀ : LineAt) (found : o₀ ≡ line_at s at) (is : o₀ ≡ LineAt.Line e n) (x : Result Taken Refusal) (r' : Reader) (b : Bond)
    (t' : List ℕ) (ta' : List ℤ) (k : Took r m n t ta (part s at e) x t' ta') (q : x ≡ Ok (Taken.Bond r' b)) where
  pub first_small : b.first ≤ 999
  first_small = (bonding sd s ta₀ tb₀ ws₀ r m at i t keys ws ta tb g e n o₀ found is x r' b t' ta' k q).fits.first

  pub second_small : b.second ≤ 999
  second_small = (bonding sd s ta₀ tb₀ ws₀ r m at i t keys ws ta tb g e n o₀ found is x r' b t' ta' k q).fits.second

  -- the rows answer for the keys of the bonds before
  pub pair_asks : (key : ℕ) → key ≡ pair_key b.first b.second → Asking ws keys m.bonds key
  pair_asks key ek =
      let o = bonding sd s ta₀ tb₀ ws₀ r m at i t keys ws ta tb g e n o₀ found is x r' b t' ta' k q in
      rowed_asks ws₀ ws keys m.bonds key g.rowed (subst PairKey (sym ek) o.pair) (omega (arith, o.few)) o.key_room

module _ (sd : Bool) (s : Bytes) (r : Reader) (m : Notes) (n i : ℕ) (t keys ws : List ℕ) (ta tb : List ℤ) (b : Bond) (key count j : ℕ)
    (g : Pairing sd s r m n i t keys ws ta tb b key count j) where
  pub pairing_next : j < count → (get_or keys j 0 ≡ key → ⊥) → Pairing sd s r m n i t keys ws ta tb b key count (j + 1)
  pairing_next h ne = record { bond = g.bond; key_of = g.key_of; before = g.before; searching = searching_next keys key count j g.searching h ne }

  pub pairing_within : j < count → j < limit
  pairing_within h = omega (arith, g.before, g.bond.few)

  -- ---- The pair is found

  module _ (h : j < count) (q : get_or keys j 0 ≡ key) where
    is_taken : pair_taken (bond_is b) g.bond.bs ≡ true
    is_taken =
        sym g.bond.key_is
        ∙ ap (λ (k : ℕ). elem k (take m.bonds keys)) (sym g.key_of)
        ∙ ap (λ (c : ℕ). elem key (take c keys)) (sym g.before)
        ∙ searching_found keys key count j g.searching h q

    twice : outcome_of (kind_of sd) s ≡ refused 11 i 1
    twice = g.bond.taken is_taken

    -- the pair that leaves the walk: bond j + 1 is the first that joins it
    pub earlier : FirstSame (bond_is b) g.bond.bs (j + 1)
    earlier =
        let a = g.bond in
        searching_first keys (bond_is b) a.bs count j (subst (λ (k : ℕ). Searching keys k count j) g.key_of g.searching) a.ends a.small
        (g.before ∙ a.count) a.bond_keys_lem h (q ∙ g.key_of)

    pub repeat_fits : (1 ≤ j + 1) × (j + 1 < count + 1)
    repeat_fits = (omega arith, omega arith)

    -- and this one is bond count + 1
    pub found_asked : (v : ℕ) → v ≡ count + 1 → v ≡ rows_asked (kind_of sd) s
    found_asked v e =
        let a = g.bond in
        e ∙ omega (arith, g.before, a.count, length-append a.bs (bond_is b ∷ []))
        ∙ sym (asked_is (kind_of sd) s (a.bs ++ (bond_is b ∷ [])) (a.asks is_taken))

    pub found_rows : (ws₀ : List ℕ) → Rowed ws₀ ws (take m.bonds keys) → RowsMarked ws₀ ws (outcome_of (kind_of sd) s)
    found_rows ws₀ rowed =
        record {
          size = rowed_size ws₀ ws (take m.bonds keys) rowed;
          past = rowed_past ws₀ ws (take m.bonds keys) rowed;
          marks = subst (MarksBy ws₀ ws) (sym twice) tt;
        }

    pub pairing_found : (y : Walked) → y ≡ Walked.Refused 11 i 1 → y ≡ walk_of (kind_of sd) s
    unfolding walk_of
    pairing_found y e = e ∙ sym (ap (walked_by (kind_of sd) s) twice)

    pub found_left : (ta₀ tb₀ : List ℤ) → Beside atom_places ta₀ ta → Beside bond_places tb₀ tb → Left ta₀ ta tb₀ tb t (outcome_of (kind_of sd) s)
    found_left ta₀ tb₀ ba bb = record { atoms = ba; bonds = bb; size = g.bond.listed_size; held = subst (HeldBy ta tb t) (sym twice) tt }

  -- ---- It is not among those before

  pub pairing_end : count ≤ j → (ta₀ tb₀ : List ℤ) (ws₀ : List ℕ) → Rowed ws₀ ws (take m.bonds keys) → Beside atom_places ta₀ ta → Beside bond_places tb₀ tb → (m' : Notes) (keys' ws' : List ℕ) (tb' : List ℤ) →
      m' ≡ bond_more m → keys' ≡ set keys m.bonds key → tb' ≡ sets tb (6 * m.bonds) (bond_numbers (bond_is b)) → ws' ≡ with_key ws key →
      Walking sd s ta₀ tb₀ ws₀ r m' n (i + 1) t keys' ws' ta tb'
  pairing_end h ta₀ tb₀ ws₀ rowed ba bb m' keys' ws' tb' em ek et ew =
      let a = g.bond in
      let new =
      sym a.key_is
      ∙ ap (λ (k : ℕ). elem k (take m.bonds keys)) (sym g.key_of)
      ∙ ap (λ (c : ℕ). elem key (take c keys)) (sym g.before)
      ∙ searching_end keys key count j g.searching h in
      rw (em, ek, et, ew, g.key_of)
      (a.free new ta₀ tb₀ ws₀ rowed ba
      (record {
        room = bb.room;
        size = length-sets tb (6 * m.bonds) (bond_numbers (bond_is b)) ∙ bb.size;
        past = drop_sets (bond_numbers (bond_is b)) tb (6 * m.bonds) bond_places (omega (arith, a.few)) ∙ bb.past;
      }))

  pub pairing_fits : Fitting ws key
  pairing_fits = subst (Fitting ws) (sym g.key_of) g.bond.rows_fit

  pub pairing_keeps : bond_places ≤ length tb → Keeping m b tb keys
  pairing_keeps h = record { few = g.bond.few; fits = g.bond.fits; room = h; key_room = g.bond.key_room }

pub ruleset pair_laws = (pairing_start, first_small, second_small, pair_asks, pairing_next, pairing_within, pairing_found, found_asked, found_left, found_rows, pairing_end, pairing_fits, pairing_keeps)
