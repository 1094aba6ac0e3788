-- The definitions keep the promise, and nothing else does.
use Prim.Native.Nat.{ℕ, zero, suc, ◌+◌, ◌-◌, ◌≤◌, ◌<◌}
use Rattle.std.proofs.Common.{arith, sym, ap, ◌∙◌, subst, ltb-true, ltb-false}
use Rattle.std.specs.Prelude.{◌≡◌, Bool, true, false, List, [], ltb, length, ℤ}
use Rattle.std.proofs.Math.Path.{refl}
use Rattle.text.specs.Text.{Bytes, Line}
use Rattle.text.specs.Cut.{lines_same}
use Rattle.rules.specs.Record.{Raw, limit, atom_places, bond_places}
use Rattle.rules.specs.Viable.{Viable, FirstDead, ARecord, first_dead}
use Rattle.judge_file.specs.Place.{FileKind, molfile, sdfile}
use Rattle.judge_file.specs.Verdict.{Verdict, accepted}
use Rattle.judge_file.specs.SameVerdict.{accepted_refused, same_accepted}
use Rattle.judge_file.specs.One.{One, one_record}
use Rattle.judge_refusals.proofs.Because.{one_because}
use Rattle.judge_refusals.specs.NoRecord.{NoRecord}
use Rattle.reader_walk.specs.Outcome.{Outcome, whole, refused, outcome_of}
use Rattle.reader_walk.specs.Stands.{molecule_lines}
use Rattle.reader_walk.specs.Walked.{walked_by, walk_of}
use Rattle.reader_walk.specs.Promise.{same_refusal}
use Rattle.reader_answer.specs.declared.RecordRead.{RecordRead}
use Rattle.reader_answer.specs.Read.{rows_in, answered, atoms_by, bonds_by}
use Rattle.reader_answer.specs.Promise.{Reply, numbers_of, Begins, Told, Refusal, Roomy, Reads, Untouched, kind_number, ReadPromise}
use Rattle.reader_answer.specs.Told.{item_lines, lines_of, reply_of, told_reply, begins_told, begins_outcome, whole_lines, outcome_begins, outcome_refused}

-- ---- Tables with room

replied : (kind : FileKind) (s : Bytes) (x : Raw) → numbers_of (answered (walked_by kind s (whole x (lines_of kind x)))) ≡ accepted (reply_of kind s x)
unfolding answered
replied molfile s x = refl
replied sdfile s x =
    let n : molecule_lines x.molecule + item_lines x.items + 1 - 1 ≡ molecule_lines x.molecule + item_lines x.items = omega arith in
    rw n

pub begins_said : (kind : FileKind) (s : Bytes) (x : Raw) → Begins kind s x → numbers_of (answered (walk_of kind s)) ≡ accepted (reply_of kind s x)
unfolding walk_of
begins_said kind s x g = ap (λ (o : Outcome). numbers_of (answered (walked_by kind s o))) (begins_outcome kind s x g) ∙ replied kind s x

pub reads : (kind : FileKind) (s : Bytes) (ta tb : List ℤ) →
    Reads kind s ta tb (numbers_of (answered (walk_of kind s))) (atoms_by ta (outcome_of kind s)) (bonds_by tb (outcome_of kind s))
unfolding walk_of answered atoms_by bonds_by
reads kind s ta tb =
    record {
      accepts = λ w. (
        to w (outcome_of kind s) refl,
        λ g. begins_said kind s g.0 g.1 ∙ ap accepted (sym (told_reply kind s g.0 w g.2)),
      );
      rows = λ x g. (ap (atoms_by ta) (begins_outcome kind s x g), ap (bonds_by tb) (begins_outcome kind s x g));
      refuses = λ e i column. off e i column (outcome_of kind s) refl;
    }
  where
    to : (w : Reply) (o : Outcome) → outcome_of kind s ≡ o → numbers_of (answered (walked_by kind s o)) ≡ accepted w → (x : Raw) × Begins kind s x × Told kind s x w
    to w (whole x k) e q =
        let g = outcome_begins kind s x k e in
        let n : k ≡ lines_of kind x = whole_lines (sym e ∙ begins_outcome kind s x g) in
        let r : w ≡ reply_of kind s x = same_accepted (sym q ∙ ap (λ (j : ℕ). numbers_of (answered (walked_by kind s (whole x j)))) n ∙ replied kind s x) in
        (x, g, subst (Told kind s x) (sym r) (begins_told kind s x g))
    to w (refused e i c) h q = accepted_refused (sym q)

    off : (e i column : ℕ) (o : Outcome) → outcome_of kind s ≡ o → numbers_of (answered (walked_by kind s o)) ≡ Verdict.refused e i column →
        Refusal kind s e i column × (atoms_by ta o ≡ rows_in atom_places ta []) × (bonds_by tb o ≡ rows_in bond_places tb [])
    off e i column (whole x k) h q = accepted_refused q
    off e i column (refused n j c) h q =
        let v : refused n j c ≡ refused e i column = cc in
        (outcome_refused kind s e i column (h ∙ v), refl, refl)

-- ---- Tables of any length, and any kind

module _ (s : Bytes) (ta tb : List ℤ) where
  abbrev pub la : ℕ
  la = length ta

  abbrev pub lb : ℕ
  lb = length tb

  pub by_room_lem : (X : Type 0) → (Roomy ta tb → X) → (la < atom_places → X) → (atom_places ≤ la → lb < bond_places → X) → X
  by_room_lem X y a b = go (ltb la atom_places) refl (ltb lb bond_places) refl
    where
      go : (t : Bool) → ltb la atom_places ≡ t → (u : Bool) → ltb lb bond_places ≡ u → X
      go true p u q = a (ltb-true la atom_places p)
      go false p true q = b (ltb-false la atom_places p) (ltb-true lb bond_places q)
      go false p false q = y (record { atoms = ltb-false la atom_places p; bonds = ltb-false lb bond_places q })

  pub kind_of_lem : (kind : ℕ) → kind ≤ 1 → (k : FileKind) × (kind ≡ kind_number k)
  kind_of_lem zero h = (molfile, refl)
  kind_of_lem (suc zero) h = (sdfile, refl)
  kind_of_lem (suc (suc kind)) h = absurd (omega arith)

-- ---- One answer and one memory

abbrev pub read_back : Reply → RecordRead
read_back w = RecordRead.Read w.n w.m w.chiral w.bytes w.lines w.header_end w.items_start_lem w.items_end_lem

back_of : Verdict Reply → RecordRead
back_of (accepted w) = read_back w
back_of (Verdict.refused e i column) = RecordRead.Refused e i column

back_is : (r : RecordRead) → back_of (numbers_of r) ≡ r
unfolding back_of
back_is (RecordRead.Read n m chiral len k h a b) = refl
back_is (RecordRead.Refused e i column) = refl

pub same_read : (r r' : RecordRead) → numbers_of r ≡ numbers_of r' → r ≡ r'
same_read r r' e = sym (back_is r) ∙ ap back_of e ∙ back_is r'

none_viable : {ls : List Line} {i : ℕ} → FirstDead (ARecord limit) ls i → ¬ Viable (ARecord limit) ls
none_viable {ls = ls} {i = i} f v = first_dead (ARecord limit) ls i f v.0 v.1

same_none : {s : Bytes} {e i c e' i' c' : ℕ} → NoRecord s e i c → NoRecord s e' i' c' → ◌≡◌ {A = Verdict Reply} (Verdict.refused e i c) (Verdict.refused e' i' c')
same_none {e = e} {i = i} {c = c} {e' = e'} {i' = i'} {c' = c'} (NoRecord.line {ls = ls} h m k f j) (NoRecord.line {ls = ls'} h' m' k' f' j') =
    let r : One.refused e i c ≡ One.refused e' i' c' =
    sym ((one_because limit ls e i c).1 j) ∙ ap (one_record limit) (lines_same h h').0 ∙ (one_because limit ls' e' i' c').1 j' in
    cc
same_none (NoRecord.line h m k f j) (NoRecord.cut_short h' v bad) = absurd (none_viable f (subst (Viable (ARecord limit)) (sym (lines_same h h').0) v))
same_none (NoRecord.cut_short h v bad) (NoRecord.line h' m' k' f' j') = absurd (none_viable f' (subst (Viable (ARecord limit)) (lines_same h h').0 v))
same_none (NoRecord.cut_short h v bad) (NoRecord.cut_short h' v' bad') = ap (λ (ls : List Line). Verdict.refused 19 (suc (length ls)) 1) (lines_same h h').0

same_refused : (k : FileKind) (s : Bytes) (e i c e' i' c' : ℕ) → Refusal k s e i c → Refusal k s e' i' c' → ◌≡◌ {A = Verdict Reply} (Verdict.refused e i c) (Verdict.refused e' i' c')
same_refused molfile s e i c e' i' c' p q = same_refusal molfile s p q
same_refused sdfile s e i c e' i' c' p q = same_none p q

module _ (s : Bytes) (ta tb : List ℤ) where
  pub reads_one : (k : FileKind) (r r' : Verdict Reply) (a b a' b' : List ℤ) → Reads k s ta tb r a b → Reads k s ta tb r' a' b' → (r ≡ r') × (a ≡ a') × (b ≡ b')
  reads_one k (accepted w) r' a b a' b' p q =
      let x = (p.accepts w).0 refl in
      let y = p.rows x.0 x.1 in
      let z = q.rows x.0 x.1 in
      (sym ((q.accepts w).1 x), y.0 ∙ sym z.0, y.1 ∙ sym z.1)
  reads_one k (Verdict.refused e i c) (accepted w) a b a' b' p q =
      let x = (q.accepts w).0 refl in
      let y = p.rows x.0 x.1 in
      let z = q.rows x.0 x.1 in
      ((p.accepts w).1 x, y.0 ∙ sym z.0, y.1 ∙ sym z.1)
  reads_one k (Verdict.refused e i c) (Verdict.refused e' i' c') a b a' b' p q =
      let y = p.refuses e i c refl in
      let z = q.refuses e' i' c' refl in
      (same_refused k s e i c e' i' c' y.0 z.0, y.1 ∙ sym z.1, y.2 ∙ sym z.2)

  untouched_one : (e : ℕ) (r r' : Verdict Reply) (a b a' b' : List ℤ) → Untouched e ta tb r a b → Untouched e ta tb r' a' b' → (r ≡ r') × (a ≡ a') × (b ≡ b')
  untouched_one e r r' a b a' b' p q = (p.0 ∙ sym q.0, p.1 ∙ sym q.1, p.2 ∙ sym q.2)

  module _ (kind : ℕ) (r r' : RecordRead) (a b a' b' : List ℤ) (p : ReadPromise kind s ta tb r a b) (q : ReadPromise kind s ta tb r' a' b') where
    abbrev Alike : Type 0
    Alike = (numbers_of r ≡ numbers_of r') × (a ≡ a') × (b ≡ b')

    kind_one : (k : FileKind) → kind ≡ kind_number k → kind ≤ 1 → Alike
    kind_one k e few =
        by_room_lem s ta tb Alike (λ y. reads_one k (numbers_of r) (numbers_of r') a b a' b' (p.reads k e y) (q.reads k e y))
        (λ h. short (λ y. omega (arith, y.atoms))) (λ h i. short (λ y. omega (arith, y.bonds)))
      where
        short : ¬ Roomy ta tb → Alike
        short n = untouched_one 2 (numbers_of r) (numbers_of r') a b a' b' (p.no_room few n) (q.no_room few n)

    any_kind : (k : ℕ) → kind ≡ k → Alike
    any_kind zero e = kind_one molfile e (omega arith)
    any_kind (suc zero) e = kind_one sdfile e (omega arith)
    any_kind (suc (suc k)) e = untouched_one 1 (numbers_of r) (numbers_of r') a b a' b' (p.other_kind (omega arith)) (q.other_kind (omega arith))

    pub read_one : (r ≡ r') × (a ≡ a') × (b ≡ b')
    read_one = let x = any_kind kind refl in (same_read r r' x.0, x.1, x.2)
