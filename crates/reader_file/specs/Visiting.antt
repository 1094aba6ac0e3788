-- The walk of a cursor over a file, beside the judge's walk over it.
use Rattle.std.specs.Prelude.{ℕ, ◌+◌, ◌≤◌, ◌<◌, ◌≡◌, List, [], ◌∷◌, ◌++◌, length, ℤ}
use Rattle.std.proofs.Common.{arith, ap₂, ◌∙◌, subst, append-nil, append_assoc}
use Rattle.std.proofs.Math.Path.{refl, sym, ap}
use Rattle.std.proofs.Math.ListN.{drop}
use Rattle.text.specs.Text.{Bytes}
use Rattle.rules.specs.Record.{Raw, limit, GoodSDfile, atom_places, bond_places}
use Rattle.rules.specs.Meaning.{meaning}
use Rattle.reader_tables.specs.Row.{flat}
use Rattle.judge_file.specs.Place.{sdfile}
use Rattle.judge_file.specs.Verdict.{Verdict, accepted, verdict}
use Rattle.judge_file.specs.SameVerdict.{accepted_refused, same_reason}
use Rattle.judge_file.specs.WalkText.{after_lines}
use Rattle.judge_file.proofs.Promise.{accepted_sd}
use Rattle.reader_walk.specs.Outcome.{Outcome, whole, refused, outcome_of}
use Rattle.reader_walk.specs.Walked.{walked_by, walk_of}
use Rattle.reader_walk.specs.Promise.{said_by}
use Rattle.reader_walk.specs.Checking.{said_of}
use Rattle.reader_cursor.specs.declared.Cursor.{Cursor}
use Rattle.reader_cursor.specs.Walk.{fresh, past}
use Rattle.reader_cursor.specs.After.{After, after_start, after_good, after_verdict, after_all}
use Rattle.reader_answer.specs.declared.RecordRead.{RecordRead}
use Rattle.reader_answer.specs.Read.{rows_in, answered, atoms_by, bonds_by, read_of, atoms_after, bonds_after}
use Rattle.reader_answer.specs.TablesRead as R
use Rattle.reader_answer.proofs.TablesRead as Rp
use Rattle.reader_answer.specs.Promise.{Begins}
use Rattle.reader_answer.specs.Told.{lines_of, reply_of, begins_told, begins_outcome, outcome_begins, begins_one, told_begins}
use Rattle.reader_answer.specs.Promised.{read_back, begins_said, same_read}
use Rattle.reader_file.specs.declared.Next.{Next}
use Rattle.reader_file.specs.Next.{Within, next_by, next_at, atoms_at, bonds_at, next_of}
use Rattle.reader_file.specs.Stepping.{not_left, end_next, read_there, atoms_there, bonds_there, enough, atoms_enough, bonds_enough}
use Rattle.reader_file.specs.Promise.{Said, found, end, numbers_of}
use Rattle.reader_file.specs.Visits.{Last, Visit, Visits, Ends, Visited}

-- ---- One record read into tables with room

module _ (la lb : ℕ) (ra : atom_places ≤ la) (rb : bond_places ≤ lb) where
  read_is : (s : Bytes) → read_of 1 la lb s ≡ answered (walk_of sdfile s)
  read_is s = sym (Rp.kind_sd 1 s la lb (answered (walk_of sdfile s)) refl (R.enough sdfile s la lb (answered (walk_of sdfile s)) ra rb refl))

  read_reply : (s : Bytes) (x : Raw) → Begins sdfile s x → read_of 1 la lb s ≡ read_back (reply_of sdfile s x)
  read_reply s x g = read_is s ∙ same_read (answered (walk_of sdfile s)) (read_back (reply_of sdfile s x)) (begins_said sdfile s x g)

  read_atoms : (s : Bytes) (x : Raw) → Begins sdfile s x → (t : List ℤ) → length t ≡ la → atoms_after 1 lb s t ≡ rows_in atom_places t (flat (meaning x).atoms)
  unfolding atoms_by
  read_atoms s x g t n =
      let u = atoms_by t (outcome_of sdfile s) in
      sym (R.atoms_sd 1 s lb t u refl (R.atoms_enough sdfile s lb t u (omega arith) rb refl)) ∙ ap (atoms_by t) (begins_outcome sdfile s x g)

  read_bonds : (s : Bytes) (x : Raw) → Begins sdfile s x → (t : List ℤ) → length t ≡ lb → bonds_after 1 la s t ≡ rows_in bond_places t (flat (meaning x).bonds)
  unfolding bonds_by
  read_bonds s x g t n =
      let u = bonds_by t (outcome_of sdfile s) in
      sym (R.bonds_sd 1 s la t u refl (R.bonds_enough sdfile s la t u ra (omega arith) refl)) ∙ ap (bonds_by t) (begins_outcome sdfile s x g)

  -- ---- One step

  module _ (s : Bytes) where
    step : (c : Cursor) → Within c s → (r : RecordRead) → read_of 1 la lb (drop c.at s) ≡ r → next_of c la lb s ≡ next_by c r
    unfolding next_at
    step c g r e = sym (enough c s la lb (next_by c r) ra rb (read_there c s la lb (next_by c r) g (ap (next_by c) (sym e))))

    visit : (c : Cursor) → Within c s → (x : Raw) → Begins sdfile (drop c.at s) x →
        Visit la lb s c x (past c (reply_of sdfile (drop c.at s) x).bytes (reply_of sdfile (drop c.at s) x).lines)
    unfolding atoms_at bonds_at
    visit c g x b =
        let t = drop c.at s in
        record {
          reply = reply_of sdfile t x;
          told = begins_told sdfile t x b;
          moved = refl;
          answer = ap numbers_of (step c g (read_back (reply_of sdfile t x)) (read_reply t x b));
          atoms = λ v n.
              sym (atoms_enough c s lb v (atoms_after 1 lb t v) (omega arith) rb (atoms_there c s lb v (atoms_after 1 lb t v) g refl)) ∙ read_atoms t x b v n;
          bonds = λ v n.
              sym (bonds_enough c s la v (bonds_after 1 la t v) ra (omega arith) (bonds_there c s la v (bonds_after 1 la t v) g refl)) ∙ read_bonds t x b v n;
        }

    -- ---- The walk

    -- the records visited from a cursor on, those before it known
    record Onward (xs : List Raw) (c : Cursor) : Type 0 where
      ys : List Raw
      d : Cursor
      r : Said
      visits : Visits la lb s c ys d r
      ends : Ends la lb s (xs ++ ys) d r

    over : (xs : List Raw) (c : Cursor) → After s xs c → length s ≤ c.at → Onward xs c
    over xs c g h =
        let all : xs ++ [] ≡ xs = append-nil xs in
        let e : verdict sdfile limit s ≡ accepted (xs ++ []) = after_good s xs c g h ∙ ap accepted (sym all) in
        let n : c.records ≡ length (xs ++ []) = g.count ∙ sym (ap length all) in
        record {
          ys = [];
          d = c;
          r = end;
          visits = Visits.stop (ap numbers_of (sym (enough c s la lb Next.End ra rb (end_next c s la lb (not_left c s h))))) tt;
          ends = ((accepted_sd limit s (xs ++ [])).0 e, ap said_by e ∙ ap accepted (sym n), n, omega (arith, g.inside));
        }

    module _ (xs : List Raw) (c : Cursor) (g : After s xs c) (left : c.at < length s) where
      within_s : Within c s
      within_s = record { left = left; lines = g.lines; records = g.records }

      halts : (e k column : ℕ) → outcome_of sdfile (drop c.at s) ≡ refused e k column → Onward xs c
      unfolding walk_of answered
      halts e k column h =
          let t = drop c.at s in
          let a : read_of 1 la lb t ≡ RecordRead.Refused e k column = read_is t ∙ ap (λ (o : Outcome). answered (walked_by sdfile t o)) h in
          record {
            ys = [];
            d = c;
            r = Said.refused e (c.lines + k) column;
            visits = Visits.stop (ap numbers_of (step c within_s (RecordRead.Refused e k column) a)) tt;
            ends = ap said_by (after_verdict s xs c g left e k column h);
          }

      onward : (x : Raw) (k : ℕ) → outcome_of sdfile (drop c.at s) ≡ whole x k → Onward (xs ++ (x ∷ [])) (past c (after_lines (drop c.at s) 0 k) k) → Onward xs c
      onward x k h v =
          let t = drop c.at s in
          let b = outcome_begins sdfile t x k h in
          let same : whole x k ≡ whole x (lines_of sdfile x) = sym h ∙ begins_outcome sdfile t x b in
          let k_is : k ≡ lines_of sdfile x = cc in
          let there = subst (λ (j : ℕ). Onward (xs ++ (x ∷ [])) (past c (after_lines t 0 j) j)) k_is v in
          record {
            ys = x ∷ there.ys;
            d = there.d;
            r = there.r;
            visits = Visits.more (visit c within_s x b) there.visits;
            ends = subst (λ (zs : List Raw). Ends la lb s zs there.d there.r) (append_assoc xs (x ∷ []) there.ys) there.ends;
          }

    pub visited : Visited la lb s
    visited =
        let v = after_all s Onward over halts onward [] fresh (after_start s) in
        record { records = v.ys; last = v.d; answer = v.r; visits = v.visits; ends = v.ends }

-- ---- There is one such walk

module _ (la lb : ℕ) (s : Bytes) where
  not_last : {c d : Cursor} {x : Raw} {r : Said} → Visit la lb s c x d → numbers_of (next_of c la lb s) ≡ r → Last r → ⊥
  not_last v h l = subst Last (sym h ∙ v.answer) l

  visit_one : {c d e : Cursor} {x y : Raw} → Visit la lb s c x d → Visit la lb s c y e → (x ≡ y) × (d ≡ e)
  visit_one {c = c} {d = d} {e = e} {x = x} {y = y} v u =
      let q : found v.reply d ≡ found u.reply e = sym v.answer ∙ u.answer in
      let t = drop c.at s in
      (begins_one sdfile t x y (told_begins t x v.reply v.told) (told_begins t y u.reply u.told), cc)

  pub visits_one : {c d e : Cursor} {xs ys : List Raw} {r q : Said} → Visits la lb s c xs d r → Visits la lb s c ys e q → (xs ≡ ys) × (d ≡ e) × (r ≡ q)
  visits_one (Visits.stop h l) (Visits.stop k m) = (refl, refl, sym h ∙ k)
  visits_one (Visits.stop h l) (Visits.more v vs) = absurd (not_last v h l)
  visits_one (Visits.more v vs) (Visits.stop k m) = absurd (not_last v k m)
  visits_one (Visits.more v vs) (Visits.more {e = e} {xs = ys} {r = q} u us) =
      let a = visit_one v u in
      let b = visits_one vs (subst (λ (c : Cursor). Visits la lb s c ys e q) (sym a.1) us) in
      (ap₂ ◌∷◌ a.0 b.0, b.1, b.2)

-- ---- A good file, and a refused one

module _ (la lb : ℕ) (ra : atom_places ≤ la) (rb : bond_places ≤ lb) (s : Bytes) where
  -- the records that the rules give are visited in order, and then the file is at its end
  pub visits_good : (xs : List Raw) → GoodSDfile s xs →
      (d : Cursor) × Visits la lb s fresh xs d end × (said_of sdfile s ≡ accepted d.records) × (d.records ≡ length xs) × (d.at ≡ length s)
  visits_good xs g = go v.records v.last v.answer v.visits v.ends
    where
      v : Visited la lb s
      v = visited la lb ra rb s

      good : verdict sdfile limit s ≡ accepted xs
      good = (accepted_sd limit s xs).1 g

      go : (ys : List Raw) (d : Cursor) (r : Said) → Visits la lb s fresh ys d r → Ends la lb s ys d r →
          (d : Cursor) × Visits la lb s fresh xs d end × (said_of sdfile s ≡ accepted d.records) × (d.records ≡ length xs) × (d.at ≡ length s)
      go ys d (found w e) q f = absurd f
      go ys d end q f =
          let same : ys ≡ xs = (let e : accepted ys ≡ accepted xs = sym ((accepted_sd limit s ys).1 f.0) ∙ good in cc) in
          (d, subst (λ (zs : List Raw). Visits la lb s fresh zs d end) same q, f.1, f.2 ∙ ap length same, f.3)
      go ys d (Said.refused e i column) q f = accepted_refused (sym (ap said_by good) ∙ f)

  -- where the check refuses, the walk ends with that refusal
  pub visits_refused : (e i column : ℕ) → said_of sdfile s ≡ Verdict.refused e i column → (xs : List Raw) × (d : Cursor) × Visits la lb s fresh xs d (Said.refused e i column)
  visits_refused e i column h = go v.records v.last v.answer v.visits v.ends
    where
      v : Visited la lb s
      v = visited la lb ra rb s

      go : (ys : List Raw) (d : Cursor) (r : Said) → Visits la lb s fresh ys d r → Ends la lb s ys d r →
          (xs : List Raw) × (d : Cursor) × Visits la lb s fresh xs d (Said.refused e i column)
      go ys d (found w c) q f = absurd f
      go ys d end q f = accepted_refused (sym f.1 ∙ h)
      go ys d (Said.refused n j c) q f =
          (ys, d, same_reason (λ (n j c : ℕ). Visits la lb s fresh ys d (Said.refused n j c)) (sym f ∙ h) q)
