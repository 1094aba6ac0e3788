-- A reading with rows keeps its promise, nothing else does, and but for the rows asked it answers what the reading without rows answers.
use Prim.Native.Nat.{ℕ, zero, suc, ◌-◌, ◌*◌, ◌≤◌, ◌<◌}
use Rattle.std.proofs.Common.{arith, sym, ◌∙◌}
use Rattle.std.specs.Prelude.{◌≡◌, List, [], Bool, length, ℤ}
use Rattle.std.proofs.Math.Path.{refl, ap, subst}
use Rattle.std.proofs.Math.Bool.{true, false}
use Rattle.std.proofs.Math.Dec.{ltb}
use borrow.Author.Tests.{lt-ltb, le-ltb, ltb-true, ltb-false}
use Rattle.text.specs.Text.{Bytes, Line}
use Rattle.text.specs.Cut.{cut, cut_is, lines_same}
use Rattle.rules.specs.Forms.{Bond}
use Rattle.rules.specs.Record.{Molecule, Raw, NoPairTwice, limit, atom_places, bond_places, Bonds, Parts1to5, Molfile, Record}
use Rattle.judge_pairs.specs.Compared.{compared_in}
use Rattle.judge_pairs.proofs.Compared.{compared_apart}
use Rattle.judge_file.specs.Place.{FileKind, molfile, sdfile, first}
use Rattle.judge_file.specs.Verdict.{Verdict, accepted}
use Rattle.judge_file.specs.SameVerdict.{accepted_refused}
use Rattle.reader_pairs.specs.Keys.{keys_of, AllSmall}
use Rattle.reader_rows.specs.Says.{row_places, Says, emptied}
use Rattle.reader_rows.specs.OneRows.{rows_one}
use Rattle.reader_rows.specs.Rowed.{Lent, lent_emptied}
use Rattle.reader_rows.specs.Marked.{marked, AllPairs, key_pair, marked_none, pairs_none, emptied_length, emptied_past, emptied_blank}
use Rattle.reader_rows.proofs.Marked.{marked_length, marked_past, marked_says}
use Rattle.reader_walk.specs.Outcome.{Outcome, whole, refused, outcome_of, outcome_from}
use Rattle.reader_walk.specs.Walked.{walked_by, walk_of}
use Rattle.reader_walk.specs.Stands.{bonds_in}
use Rattle.reader_walk.specs.Asked.{rows_asked, asked_start, asked_is, asked_whole, asked_came, Came, came_one, Own, came_other, came_own}
use Rattle.reader_answer.specs.declared.Counted.{Counted}
use Rattle.reader_answer.specs.declared.RecordRead.{RecordRead}
use Rattle.reader_answer.specs.Read.{answered}
use Rattle.reader_answer.specs.TablesRead.{by_none}
use Rattle.reader_answer.specs.Promise.{Reply, numbers_of, Begins, Roomy, Reads, kind_number}
use Rattle.reader_answer.specs.Promised.{by_room_lem, reads, same_read, reads_one}
use Rattle.reader_answer.specs.Told.{lines_of, begins_outcome, outcome_begins}
use Rattle.reader_answer.specs.Rows.{begins_sized}
use Rattle.reader_answer.specs.Rowed.{After, after, kept, settled, bond_keys, rows_by, rowed_as, rowed_of, Until, Asks, RowsSay, Kept, RowedPromise}

-- ---- The bonds of a record

pub record Paired (bs : List Bond) : Type 0 where
  pub keys : AllPairs (keys_of bs)
  pub small : AllSmall bs
  pub once : NoPairTwice bs

all_pairs_lem : {n k : ℕ} {t r : List Line} {bs : List Bond} → n ≤ limit → Bonds n k t bs r → AllPairs (keys_of bs)
unfolding AllPairs
all_pairs_lem few Bonds.none = tt
all_pairs_lem few (Bonds.more {b = b} h rest) =
    (key_pair b.first b.second h.first.low (omega (arith, h.first.high)) h.second.low (omega (arith, h.second.high)), all_pairs_lem few rest)

all_small : {n k : ℕ} {t r : List Line} {bs : List Bond} → n ≤ limit → Bonds n k t bs r → AllSmall bs
unfolding AllSmall
all_small few Bonds.none = tt
all_small few (Bonds.more h rest) = (record { first = omega (arith, h.first.high); second = omega (arith, h.second.high) }, all_small few rest)

paired : {t r : List Line} {m : Molecule} → Parts1to5 limit t m r → Paired m.bonds
paired (Parts1to5.parts h₁ h₂ h₃ c a b once p o) = record { keys = all_pairs_lem c.atoms.high b; small = all_small c.atoms.high b; once = once }

mol_paired : {t : List Line} {x : Raw} → Molfile limit t x → Paired x.molecule.bonds
mol_paired (Molfile.molfile p) = paired p

record_paired : {t r : List Line} {x : Raw} → Record limit t x r → Paired x.molecule.bonds
record_paired (Record.record_of p i) = paired p

pub begins_paired : (kind : FileKind) (s : Bytes) (x : Raw) → Begins kind s x → Paired x.molecule.bonds
begins_paired molfile s x g = mol_paired g.2
begins_paired sdfile s x g = record_paired g.4

-- ---- The rows

module _ (kind : FileKind) (s : Bytes) (ws : List ℕ) (room : row_places ≤ length ws) where
  keys_paired : (o : Outcome) → outcome_of kind s ≡ o → AllPairs (bond_keys o)
  keys_paired (whole x k) e = (begins_paired kind s x (outcome_begins kind s x k e)).keys
  keys_paired (refused e i c) h = pairs_none

  pub rows_say : RowsSay kind s ws (numbers_of (answered (walk_of kind s))) (rows_by ws (outcome_of kind s))
  unfolding rows_by walk_of answered
  rows_say =
      record {
        size = marked_length (emptied ws) (bond_keys (outcome_of kind s)) ∙ emptied_length ws room;
        past = marked_past (emptied ws) (bond_keys (outcome_of kind s)) (keys_paired (outcome_of kind s) refl) ∙ emptied_past ws;
        says = λ x g.
            let p = begins_paired kind s x g in
            subst (λ (o : Outcome). Says (marked (emptied ws) (bond_keys o)) x.molecule.bonds) (sym (begins_outcome kind s x g))
            (marked_says (emptied ws) (keys_of x.molecule.bonds) (emptied_blank ws) (omega (arith, emptied_length ws room)) p.keys x.molecule.bonds p.small refl);
        empty = λ e i column. off e i column (outcome_of kind s);
      }
    where
      off : (e i column : ℕ) (o : Outcome) → numbers_of (answered (walked_by kind s o)) ≡ Verdict.refused e i column → marked (emptied ws) (bond_keys o) ≡ emptied ws
      off e i column (whole x k) q = accepted_refused q
      off e i column (refused n j c) q = marked_none (emptied ws)

pub lent_cleared : (ws vs : List ℕ) → row_places ≤ length ws → vs ≡ emptied ws → Lent vs
lent_cleared ws vs room e = subst Lent (sym e) (lent_emptied ws room)

pub settled_read : (r : RecordRead) (n m chiral len k h a b : ℕ) (ws : List ℕ) → r ≡ RecordRead.Read n m chiral len k h a b → ws ≡ settled r ws
unfolding settled
settled_read r n m chiral len k h a b ws e = ap (λ (z : RecordRead). settled z ws) (sym e)

-- ---- How many are asked

pub asks : (kind : FileKind) (s : Bytes) → Asks kind s (numbers_of (answered (walk_of kind s))) (rows_asked kind s)
unfolding walk_of answered
asks kind s =
    record {
      accepts = λ x b.
          asked_is kind s x.molecule.bonds
          (asked_start kind s ∙ asked_whole kind first 1 (cut s).lines (cut s).rest x (lines_of kind x) (sym (outcome_from kind s) ∙ begins_outcome kind s x b));
      refuses = λ e i column. off e i column (outcome_of kind s) refl;
    }
  where
    off : (e i column : ℕ) (o : Outcome) → outcome_of kind s ≡ o → numbers_of (answered (walked_by kind s o)) ≡ Verdict.refused e i column → Until kind s i (rows_asked kind s)
    off e i column (whole x k) h q = accepted_refused q
    off e i column (refused n j c) h q =
        let v : refused n j c ≡ refused e i column = cc in
        record {
          ls = (cut s).lines;
          rest = (cut s).rest;
          lines = cut_is s;
          bonds = _;
          came = asked_came kind (cut s).lines (cut s).rest e i column (sym (outcome_from kind s) ∙ h ∙ v);
          count = asked_is kind s _ (asked_start kind s);
        }

-- an accepted record with m bonds: m rows, where the search calls for m(m-1)/2 comparisons
pub accepted_asked : (kind : FileKind) (s : Bytes) (r : Verdict Reply) (q : ℕ) → Asks kind s r q → (x : Raw) → Begins kind s x →
    (q ≡ x.molecule.counts.bonds) × (2 * compared_in [] x.molecule.bonds ≡ q * (q - 1))
accepted_asked kind s r q c x b =
    let e = c.accepts x b in
    (e ∙ (begins_sized kind s x b).bonds, rw e (compared_apart x.molecule.bonds (begins_paired kind s x b).once))

module _ (kind : FileKind) (s : Bytes) (i q : ℕ) (u : Until kind s i q) where
  -- a bond line that is good but for its pair, after k bonds: k + 1 rows
  pub repeat_asked : (b : Bond) → Own u.came.place u.came.after b → q ≡ suc (length (bonds_in u.came.place))
  repeat_asked b o = u.count ∙ came_own kind u.ls i u.bonds u.came b o

  -- any other refusal after k bonds: k rows
  pub other_asked : ((b : Bond) → ¬ Own u.came.place u.came.after b) → q ≡ length (bonds_in u.came.place)
  other_asked n = u.count ∙ came_other kind u.ls i u.bonds u.came n

-- ---- As the code comes to its ends

abbrev made : RecordRead → ℕ → List ℤ → List ℤ → List ℕ → After
made r q a b ws = record { read = r; asked = q; atoms = a; bonds = b; rows = ws }

made_same : {r r' : RecordRead} {q q' : ℕ} {a a' b b' : List ℤ} {ws ws' : List ℕ} → r ≡ r' → q ≡ q' → a ≡ a' → b ≡ b' → ws ≡ ws' → made r q a b ws ≡ made r' q' a' b' ws'
made_same {r = r} {r' = r'} {q = q} {q' = q'} {a = a} {a' = a'} {b = b} {b' = b'} {ws = ws} {ws' = ws'} e f g h i =
    ap (λ (x : RecordRead). made x q a b ws) e ∙ ap (λ (x : ℕ). made r' x a b ws) f ∙ ap (λ (x : List ℤ). made r' q' x b ws) g
    ∙ ap (λ (x : List ℤ). made r' q' a' x ws) h ∙ ap (λ (x : List ℕ). made r' q' a' b' x) i

pub after_same : (r : Counted) (ta tb : List ℤ) (ws : List ℕ) (y : After) → r.read ≡ y.read → r.asked ≡ y.asked → ta ≡ y.atoms → tb ≡ y.bonds → ws ≡ y.rows → after r ta tb ws ≡ y
after_same r ta tb ws y e f g h i = made_same e f g h i

module _ (kind : FileKind) (s : Bytes) (ta tb : List ℤ) (ws : List ℕ) (r : Counted) where
  pub rowed_short_atoms : length ta < atom_places → r.read ≡ RecordRead.Refused 2 0 0 → r.asked ≡ 0 → after r ta tb ws ≡ rowed_as kind s ta tb ws
  unfolding rowed_as
  rowed_short_atoms h e f = rw (lt-ltb (length ta) atom_places h) (after_same r ta tb ws (kept 2 ta tb ws) e f refl refl refl)

  pub rowed_short_bonds : atom_places ≤ length ta → length tb < bond_places → r.read ≡ RecordRead.Refused 2 0 0 → r.asked ≡ 0 → after r ta tb ws ≡ rowed_as kind s ta tb ws
  unfolding rowed_as
  rowed_short_bonds h k e f = rw (le-ltb (length ta) atom_places h, lt-ltb (length tb) bond_places k) (after_same r ta tb ws (kept 2 ta tb ws) e f refl refl refl)

  pub rowed_short_rows : atom_places ≤ length ta → bond_places ≤ length tb → length ws < row_places → r.read ≡ RecordRead.Refused 35 0 0 → r.asked ≡ 0 →
      after r ta tb ws ≡ rowed_as kind s ta tb ws
  unfolding rowed_as
  rowed_short_rows h k l e f =
      rw (le-ltb (length ta) atom_places h, le-ltb (length tb) bond_places k, lt-ltb (length ws) row_places l) (after_same r ta tb ws (kept 35 ta tb ws) e f refl refl refl)

module _ (kind : ℕ) (s : Bytes) (ta tb : List ℤ) (ws : List ℕ) where
  pub rowed_mol : (y : After) → kind ≡ 0 → y ≡ rowed_as molfile s ta tb ws → y ≡ rowed_of kind s ta tb ws
  unfolding rowed_of
  rowed_mol y e h = h ∙ ap (λ (k : ℕ). rowed_of k s ta tb ws) (sym e)

  pub rowed_none : (r : Counted) → (kind ≡ 0 → ⊥) → (kind ≡ 1 → ⊥) → r.read ≡ RecordRead.Refused 1 0 0 → r.asked ≡ 0 → after r ta tb ws ≡ rowed_of kind s ta tb ws
  unfolding rowed_of
  rowed_none r z o e f =
      after_same r ta tb ws (kept 1 ta tb ws) e f refl refl refl ∙ by_none kind s kind (kept 1 ta tb ws) (λ (k : FileKind). rowed_as k s ta tb ws) z o

-- ---- The promise is kept

module _ (s : Bytes) (ta tb : List ℤ) (ws : List ℕ) where
  -- ---- One answer and one memory

  rowed_same : (y z : After) → (numbers_of y.read ≡ numbers_of z.read) → y.atoms ≡ z.atoms → y.bonds ≡ z.bonds → y.rows ≡ z.rows → y.asked ≡ z.asked → y ≡ z
  rowed_same y z e f g h i = made_same (same_read y.read z.read e) i f g h

  kept_one : (e : ℕ) (y z : After) → Kept e ta tb ws y → Kept e ta tb ws z → y ≡ z
  kept_one e y z p q =
      rowed_same y z (p.0.0 ∙ sym q.0.0) (p.0.1 ∙ sym q.0.1) (p.0.2 ∙ sym q.0.2) (p.1 ∙ sym q.1) (p.2 ∙ sym q.2)

  until_one : (k : FileKind) (i q q' : ℕ) → Until k s i q → Until k s i q' → q ≡ q'
  until_one k i q q' u v =
      let e = came_one k v.ls i u.bonds v.bonds (subst (λ (t : List Line). Came k t i u.bonds) (lines_same u.lines v.lines).0 u.came) v.came in
      u.count ∙ ap length e ∙ sym v.count

  abbrev Whole : FileKind → Verdict Reply → List ℤ → List ℤ → List ℕ → ℕ → Type 0
  Whole k r a b vs q = Reads k s ta tb r a b × RowsSay k s ws r vs × Asks k s r q

  said_one : (k : FileKind) (r : Verdict Reply) (a b a' b' : List ℤ) (vs us : List ℕ) (q q' : ℕ) → Whole k r a b vs q → Whole k r a' b' us q' → (vs ≡ us) × (q ≡ q')
  said_one k (accepted w) a b a' b' vs us q q' p p' =
      let x = (p.0.accepts w).0 refl in (
        rows_one x.0.molecule.bonds vs us (p.1.says x.0 x.1) (p'.1.says x.0 x.1) (p.1.size ∙ sym p'.1.size) (p.1.past ∙ sym p'.1.past),
        p.2.accepts x.0 x.1 ∙ sym (p'.2.accepts x.0 x.1),
      )
  said_one k (Verdict.refused n i c) a b a' b' vs us q q' p p' =
      (p.1.empty n i c refl ∙ sym (p'.1.empty n i c refl), until_one k i q q' (p.2.refuses n i c refl) (p'.2.refuses n i c refl))

  whole_one : (k : FileKind) (y z : After) → Whole k (numbers_of y.read) y.atoms y.bonds y.rows y.asked →
      Whole k (numbers_of z.read) z.atoms z.bonds z.rows z.asked → y ≡ z
  whole_one k y z p q =
      let t = reads_one s ta tb k (numbers_of y.read) (numbers_of z.read) y.atoms y.bonds z.atoms z.bonds p.0 q.0 in
      let v = said_one k (numbers_of y.read) y.atoms y.bonds z.atoms z.bonds y.rows z.rows y.asked z.asked p
      (subst (λ (r : Verdict Reply). Whole k r z.atoms z.bonds z.rows z.asked) (sym t.0) q) in
      rowed_same y z t.0 t.1 t.2 v.0 v.1

  module _ (kind : ℕ) (y z : After) (p : RowedPromise kind s ta tb ws y) (q : RowedPromise kind s ta tb ws z) where
    kind_one : (k : FileKind) → kind ≡ kind_number k → kind ≤ 1 → y ≡ z
    kind_one k e few =
        by_room_lem s ta tb (y ≡ z) (λ room. rows room (ltb (length ws) row_places) refl) (λ h. none (λ room. omega (arith, room.atoms))) (λ h i. none (λ room. omega (arith, room.bonds)))
      where
        none : ¬ Roomy ta tb → y ≡ z
        none n = kept_one 2 y z (p.no_room few n) (q.no_room few n)

        rows : Roomy ta tb → (t : Bool) → ltb (length ws) row_places ≡ t → y ≡ z
        rows room true l = let m = ltb-true (length ws) row_places l in kept_one 35 y z (p.no_rows few room m) (q.no_rows few room m)
        rows room false l = let m = ltb-false (length ws) row_places l in whole_one k y z (p.reads k e room m) (q.reads k e room m)

    any_kind : (k : ℕ) → kind ≡ k → y ≡ z
    any_kind zero e = kind_one molfile e (omega arith)
    any_kind (suc zero) e = kind_one sdfile e (omega arith)
    any_kind (suc (suc k)) e = kept_one 1 y z (p.other_kind (omega arith)) (q.other_kind (omega arith))

    pub rowed_one : y ≡ z
    rowed_one = any_kind kind refl
