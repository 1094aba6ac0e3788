-- Counted, then listed; judged before, and the work tables emptied behind: laws for the code.
use Rattle.std.specs.Prelude.{Result, Ok, Err, ℕ, ◌+◌, ◌*◌, ◌/◌, ◌≤◌, ◌<◌, ◌^◌, List, [], ◌∷◌, ◌++◌, Bool, leb, length, drop, ℤ}
use Rattle.std.proofs.Common.{arith, sym, ap, ap₂, ◌∙◌, subst, length-append}
use Rattle.std.proofs.Math.Path.{◌≡◌, refl}
use Rattle.std.proofs.Math.Bool.{true, false, cond}
use Rattle.std.proofs.Math.Dec.{ltb}
use Rattle.std.proofs.lemmas.List.Edits.{sets, sets-eq}
use borrow.Author.Tests.{leb-true, leb-false, le-leb, lt-leb, le-ltb, ltb-false}
use Rattle.text.specs.Text.{Bytes}
use Rattle.rules.specs.Record.{Raw, limit, atom_places, bond_places}
use Rattle.judge_file.specs.Place.{sdfile}
use Rattle.judge_file.specs.Verdict.{Verdict, accepted, refused, verdict}
use Rattle.reader_answer.specs.Read.{zeroed, rows_in}
use Rattle.reader_answer.specs.Rows.{rows_emptied}
use Rattle.compare_rules.specs.declared.Count.{Count}
use Rattle.compare_rules.specs.Differences.{Difference, row}
use Rattle.compare_rules.specs.Files.{files_apart}
use Rattle.compare_rules.specs.Log.{Log, log, seen, noted}
use Rattle.compare_rules.specs.Listed.{flat, stored_exact, room_told}
use Rattle.judge_file.specs.declared.TextRefusal.{TextRefusal}
use Rattle.compare_files.specs.declared.Judged.{Judged}
use Rattle.compare_files.specs.Compare.{within, first, files_for, Work, work, answer_by, list_by, emptied}
use Rattle.compare_files.specs.Judging.{judged_by, short_by}
use Rattle.compare_files.specs.Pair.{Kept, kept_rooms}
use Rattle.compare_files.specs.Walking.{GoodFiles, Apart}
use Rattle.compare_files.specs.Promise.{Rooms, Promise, promise_short, promise_long}

-- ---- Two good files

-- tables that were lent once are lent again
pub good_again : {a : Bytes} {n : ℕ} {b : Bytes} {m : ℕ} {w w' : Work} → GoodFiles a n b m w → Kept w w' → GoodFiles a n b m w'
good_again g kept =
    record { xs = g.xs; ys = g.ys; left = g.left; right = g.right; n_is = g.n_is; m_is = g.m_is; rooms = kept_rooms kept }

flat_length : (ds : List Difference) → length (flat ds) ≡ 7 * length ds
unfolding flat
flat_length [] = refl
flat_length (d ∷ ds) = length-append (row d) (flat ds) ∙ omega (arith, flat_length ds)

module _ (a : Bytes) (n : ℕ) (b : Bytes) (m : ℕ) (w : Work) (g : GoodFiles a n b m w) (l none none' : List ℤ) (r : Count) (small : length l * 8 < 2 ^ 63)
    (p : Apart a b (log none (seen 0)) (log none' r)) where
  abbrev ds : List Difference
  ds = files_apart g.xs g.ys

  file_is : files_for a b (length l) ≡ within (length l) ds
  unfolding files_for
  file_is = rw (g.left, g.right)

  count_is : r.seen ≡ (noted (log none (seen 0)) ds).count.seen
  count_is = ap (λ (f : Log). f.count.seen) (p.same g.xs g.ys g.left g.right)

  module _ (over : length l / 7 < r.seen) where
    short : files_for a b (length l) ≡ refused 39 0 0
    short =
        let h : length l < 7 * length ds = not_less (λ e. less ((room_told none l ds (omega (arith, small))).1 e)) in
        file_is ∙ ap (λ (t : Bool). cond t (accepted ds) (refused 39 0 0)) (lt-leb (7 * length ds) (length l) h)
      where
        less : 7 * (noted (log none (seen 0)) ds).count.seen ≤ length l → ⊥
        less e = omega (arith, count_is)

        not_less : (7 * length ds ≤ length l → ⊥) → length l < 7 * length ds
        not_less f = go (leb (7 * length ds) (length l)) refl
          where
            go : (t : Bool) → leb (7 * length ds) (length l) ≡ t → length l < 7 * length ds
            go true e = absurd (f (leb-true (7 * length ds) (length l) e))
            go false e = leb-false (7 * length ds) (length l) e

    pub list_short : Err (record { no = 39; line = 0; column = 0 }) ≡ answer_by (files_for a b (length l))
    list_short = sym (ap answer_by short)

    pub list_kept : l ≡ list_by l (files_for a b (length l))
    list_kept = sym (ap (list_by l) short)

  module _ (room : r.seen ≤ length l / 7) (l' : List ℤ) (r' : Count) (q : Apart a b (log l (seen 0)) (log l' r')) where
    fits : 7 * length ds ≤ length l
    fits = (room_told none l ds (omega (arith, small))).0 (omega (arith, count_is))

    long : files_for a b (length l) ≡ accepted ds
    long = file_is ∙ ap (λ (t : Bool). cond t (accepted ds) (refused 39 0 0)) (le-leb (7 * length ds) (length l) fits)

    all : log l' r' ≡ log (sets l 0 (flat ds)) (seen (length ds))
    all =
        let z : 0 + length ds ≡ length ds = omega arith in
        q.same g.xs g.ys g.left g.right
        ∙ stored_exact l 0 ds (omega (arith, fits)) (omega (arith, small))
        ∙ ap (λ (k : ℕ). log (sets l 0 (flat ds)) (seen k)) z

    pub list_done : Ok r'.seen ≡ answer_by (files_for a b (length l))
    list_done = ap (λ (f : Log). Ok f.count.seen) all ∙ sym (ap answer_by long)

    pub list_written : l' ≡ list_by l (files_for a b (length l))
    list_written =
        let k = flat_length ds in
        let j : 0 + length (flat ds) ≡ 7 * length ds = omega arith in
        ap (λ (f : Log). f.list) all ∙ sets-eq (flat ds) l 0 (omega (arith, fits, k)) ∙ ap (λ (i : ℕ). flat ds ++ drop i l) j ∙ sym (ap (list_by l) long)

-- ---- Judged before

module _ (a b : Bytes) (j : Judged) (ej : j ≡ judged_by (verdict sdfile limit a) (verdict sdfile limit b)) where
  pub judged_good : (w : Work) (n m : ℕ) → Rooms w → j ≡ Judged.Good n m → GoodFiles a n b m w
  judged_good w n m rooms q = go (verdict sdfile limit a) refl (verdict sdfile limit b) refl (sym ej ∙ q)
    where
      go : (u : Verdict (List Raw)) → verdict sdfile limit a ≡ u → (v : Verdict (List Raw)) → verdict sdfile limit b ≡ v → judged_by u v ≡ Judged.Good n m → GoodFiles a n b m w
      go (accepted xs) e (accepted ys) f z = record { xs = xs; ys = ys; left = e; right = f; n_is = cc; m_is = cc; rooms = rooms }
      go (accepted xs) e (refused k i c) f z = absurd (let z : ◌≡◌ {A = ℕ} 0 1 = cc in omega arith)
      go (refused k i c) e v f z = absurd (let z : ◌≡◌ {A = ℕ} 0 1 = cc in omega arith)

  module _ (e i c : ℕ) (q : j ≡ Judged.Bad e i c) (l : List ℤ) where
    stopped : files_for a b (length l) ≡ refused e i c
    unfolding files_for
    stopped = go (verdict sdfile limit a) (verdict sdfile limit b) (sym ej ∙ q)
      where
        go : (u v : Verdict (List Raw)) → judged_by u v ≡ Judged.Bad e i c → first (length l) u v ≡ refused e i c
        go (accepted xs) (accepted ys) z = absurd (let z : ◌≡◌ {A = ℕ} 0 1 = cc in omega arith)
        go (accepted xs) (refused n k d) z =
            let o : 37 ≡ e = cc in
            let s : k ≡ i = cc in
            let t : d ≡ c = cc in
            rw (o, s, t)
        go (refused n k d) v z =
            let o : 36 ≡ e = cc in
            let s : k ≡ i = cc in
            let t : d ≡ c = cc in
            rw (o, s, t)

    pub judged_bad : Err (record { no = e; line = i; column = c }) ≡ answer_by (files_for a b (length l))
    judged_bad = sym (ap answer_by stopped)

    pub judged_kept : l ≡ list_by l (files_for a b (length l))
    judged_kept = sym (ap (list_by l) stopped)

-- ---- The work tables

module _ (ta tb ua ub : List ℤ) (t : Bool) (et : t ≡ short_by (length ta) (length tb) (length ua) (length ub)) where
  pub short_rooms : t ≡ true → Rooms (work ta tb ua ub) → ⊥
  unfolding short_by
  short_rooms h r =
      let oa = r.old.atoms in
      let ob = r.old.bonds in
      let na = r.new.atoms in
      let nb = r.new.bonds in
      let z : short_by (length ta) (length tb) (length ua) (length ub) ≡ false = rw (le-ltb (length ta) atom_places oa, le-ltb (length tb) bond_places ob, le-ltb (length ua) atom_places na, le-ltb (length ub) bond_places nb) in
      absurd (let y : ◌≡◌ {A = ℕ} 0 1 = cc in omega arith)

  pub long_rooms : t ≡ false → Rooms (work ta tb ua ub)
  unfolding short_by
  long_rooms h = go (ltb (length ta) atom_places) refl (ltb (length tb) bond_places) refl (ltb (length ua) atom_places) refl (ltb (length ub) bond_places) refl (sym et ∙ h)
    where
      go : (p : Bool) → ltb (length ta) atom_places ≡ p → (q : Bool) → ltb (length tb) bond_places ≡ q → (r : Bool) → ltb (length ua) atom_places ≡ r → (s : Bool) → ltb (length ub) bond_places ≡ s →
          cond p true (cond q true (cond r true s)) ≡ false → Rooms (work ta tb ua ub)
      go true i q j r k s m z = absurd (let y : ◌≡◌ {A = ℕ} 0 1 = cc in omega arith)
      go false i true j r k s m z = absurd (let y : ◌≡◌ {A = ℕ} 0 1 = cc in omega arith)
      go false i false j true k s m z = absurd (let y : ◌≡◌ {A = ℕ} 0 1 = cc in omega arith)
      go false i false j false k true m z = absurd (let y : ◌≡◌ {A = ℕ} 0 1 = cc in omega arith)
      go false i false j false k false m z =
          record {
            old = record { atoms = ltb-false (length ta) atom_places i; bonds = ltb-false (length tb) bond_places j };
            new = record { atoms = ltb-false (length ua) atom_places k; bonds = ltb-false (length ub) bond_places m };
          }

module _ (a b : Bytes) (ta tb ua ub l : List ℤ) (t : Bool) (et : t ≡ short_by (length ta) (length tb) (length ua) (length ub)) where
  pub files_short : t ≡ true → Promise a b (work ta tb ua ub) l (Err (record { no = 2; line = 0; column = 0 })) (work ta tb ua ub) l
  files_short h = promise_short a b (work ta tb ua ub) l (short_rooms ta tb ua ub t et h)

  pub files_long : t ≡ false → (r : Result ℕ TextRefusal) (l' ta' tb' ua' ub' ta'' tb'' ua'' ub'' : List ℤ) →
      r ≡ answer_by (files_for a b (length l)) → l' ≡ list_by l (files_for a b (length l)) →
      Kept (work ta tb ua ub) (work ta' tb' ua' ub') → ta'' ≡ zeroed ta' 0 atom_places → tb'' ≡ zeroed tb' 0 bond_places → ua'' ≡ zeroed ua' 0 atom_places → ub'' ≡ zeroed ub' 0 bond_places →
      Promise a b (work ta tb ua ub) l r (work ta'' tb'' ua'' ub'') l'
  files_long h r l' ta' tb' ua' ub' ta'' tb'' ua'' ub'' e f kept i j k m =
      let w : work ta'' tb'' ua'' ub'' ≡ emptied (work ta tb ua ub) =
      ap₂ (λ (x y : List ℤ). work x y ua'' ub'') (rows_emptied atom_places ta ta' ta'' kept.old_atoms i) (rows_emptied bond_places tb tb' tb'' kept.old_bonds j)
      ∙ ap₂ (λ (x y : List ℤ). work (rows_in atom_places ta []) (rows_in bond_places tb []) x y) (rows_emptied atom_places ua ua' ua'' kept.new_atoms k) (rows_emptied bond_places ub ub' ub'' kept.new_bonds m)
      in
      subst (λ (z : Work). Promise a b (work ta tb ua ub) l r z l') (sym w) (promise_long a b (work ta tb ua ub) l (long_rooms ta tb ua ub t et h) r l' e f)
