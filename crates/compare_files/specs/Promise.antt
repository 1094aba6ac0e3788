-- What comparing two files promises, in the words of the rules: when all differences are listed, what then stands in the list, and what each refusal means.
-- For every two files, and whatever list and work tables were lent, there is one answer and one memory after it.
use Rattle.std.specs.Prelude.{Result, Ok, Err, ℕ, zero, suc, ◌+◌, ◌*◌, ◌≤◌, ◌<◌, ◌≡◌, ◌↔◌, Bool, ltb, drop, ℤ}
use Rattle.std.proofs.Common.{arith, sym, ap₂, ◌∙◌, leb-true, leb-false, le-leb}
use Rattle.std.proofs.Math.Path.{refl, ap}
use Rattle.std.proofs.Math.Bool.{true, false, cond}
use Rattle.std.proofs.lemmas.Bool.{false≢true, lt-leb}
use mathlib.Core.List.{List, [], ◌∷◌, ◌++◌, map}
use Rattle.std.proofs.Math.Dec.{leb}
use Rattle.std.proofs.Math.ListN.{length}
use Rattle.text.specs.Text.{Bytes}
use Rattle.text.specs.Laws.{false_true}
use Rattle.rules.specs.Record.{Raw, GoodSDfile, limit, atom_places, bond_places}
use Rattle.rules.specs.Meaning.{meaning}
use Rattle.rules.proofs.Unique.{one_sdfile}
use Rattle.judge_file.specs.Place.{sdfile}
use Rattle.judge_file.specs.Verdict.{Verdict, accepted, refused, verdict}
use Rattle.judge_file.specs.SameVerdict.{accepted_refused, same_accepted, same_reason}
use Rattle.judge_file.proofs.Promise.{accepted_sd}
use Rattle.reader_walk.specs.Promise.{RefusedAt, refused_at_lem, at_refused}
use Rattle.reader_answer.specs.Promise.{Roomy}
use Rattle.writer_answer.specs.CataloguePromise.{both}
use Rattle.compare_rules.specs.Differences.{Difference, exchanged}
use Rattle.compare_rules.specs.Files.{files_apart}
use Rattle.compare_rules.proofs.Files.{none_same_files, exchange_files}
use Rattle.compare_rules.specs.Listed.{flat}
use Rattle.judge_file.specs.declared.TextRefusal.{TextRefusal}
use Rattle.compare_files.specs.Compare.{within, first, files_for, Work, roomy, compared_for, answer_by, list_by, emptied, work_after}

-- ---- What an answer says: how many differences, or number, line and column of a refusal

abbrev pub numbers_of : Result ℕ TextRefusal → Verdict ℕ
numbers_of (Ok count) = accepted count
numbers_of (Err r) = refused r.no r.line r.column

back_of : Verdict ℕ → Result ℕ TextRefusal
back_of (accepted count) = Ok count
back_of (refused e line column) = Err (record { no = e; line = line; column = column })

-- two answers that say the same are the same
same_answer : (r s : Result ℕ TextRefusal) → numbers_of r ≡ numbers_of s → r ≡ s
unfolding back_of
same_answer r s e = sym (back r) ∙ ap back_of e ∙ back s
  where
    back : (r : Result ℕ TextRefusal) → back_of (numbers_of r) ≡ r
    back (Ok count) = refl
    back (Err f) = refl

-- ---- The promise

-- all four tables have room for as many atoms and bonds as a record may have
pub record Rooms (w : Work) : Type 0 where
  pub old : Roomy w.old_atoms w.old_bonds
  pub new : Roomy w.new_atoms w.new_bonds

-- what is wrong, with a list of k numbers: the first of these, in this order. 36 and 37 name the line and column of that file's own refusal.
pub data Refusal (a b : Bytes) (w : Work) (k : ℕ) : ℕ → ℕ → ℕ → Type 0 where
  tables : ¬ Rooms w → Refusal a b w k 2 0 0
  old : {e line column : ℕ} → Rooms w → RefusedAt sdfile a e line column → Refusal a b w k 36 line column
  new : {xs : List Raw} {e line column : ℕ} → Rooms w → GoodSDfile a xs → RefusedAt sdfile b e line column → Refusal a b w k 37 line column
  list : {xs ys : List Raw} → Rooms w → GoodSDfile a xs → GoodSDfile b ys → k < 7 * length (files_apart xs ys) → Refusal a b w k 39 0 0

-- tables w₀ and list l₀ were lent, r is the answer, and they are then w and l
pub record Promise (a b : Bytes) (w₀ : Work) (l₀ : List ℤ) (r : Result ℕ TextRefusal) (w : Work) (l : List ℤ) : Type 0 where
  pub answer : r ≡ answer_by (compared_for w₀ a b (length l₀))
  pub list : l ≡ list_by l₀ (compared_for w₀ a b (length l₀))
  pub tables : w ≡ work_after w₀
  pub done : (k : ℕ) →
      (numbers_of r ≡ accepted k) ↔ ((xs : List Raw) × (ys : List Raw) × Rooms w₀ × GoodSDfile a xs × GoodSDfile b ys × (k ≡ length (files_apart xs ys)) × (7 * k ≤ length l₀))
  pub written : (xs ys : List Raw) → Rooms w₀ → GoodSDfile a xs → GoodSDfile b ys → 7 * length (files_apart xs ys) ≤ length l₀ →
      l ≡ flat (files_apart xs ys) ++ drop (7 * length (files_apart xs ys)) l₀
  pub refused : (e line column : ℕ) → (numbers_of r ≡ Verdict.refused e line column) ↔ Refusal a b w₀ (length l₀) e line column
  pub untouched : (e line column : ℕ) → numbers_of r ≡ Verdict.refused e line column → l ≡ l₀
  -- no row is left; tables without room are as they were
  pub emptied : Rooms w₀ → w ≡ emptied w₀
  pub kept : ¬ Rooms w₀ → w ≡ w₀

-- no two answers, and no two memories
pub one_promise : {a b : Bytes} {w₀ : Work} {l₀ : List ℤ} {r s : Result ℕ TextRefusal} {w v : Work} {l m : List ℤ} →
    Promise a b w₀ l₀ r w l → Promise a b w₀ l₀ s v m → (r ≡ s) × (w ≡ v) × (l ≡ m)
one_promise p q = (p.answer ∙ sym q.answer, p.tables ∙ sym q.tables, p.list ∙ sym q.list)

-- ---- What follows from it, for two good files and enough room

module _ {a b : Bytes} {w₀ : Work} {l₀ : List ℤ} {r : Result ℕ TextRefusal} {w : Work} {l : List ℤ} (p : Promise a b w₀ l₀ r w l) (rooms : Rooms w₀) (xs ys : List Raw)
    (ga : GoodSDfile a xs) (gb : GoodSDfile b ys) where
  -- no difference exactly if the readings are the same
  pub none_alike : (numbers_of r ≡ accepted 0) ↔ (map meaning xs ≡ map meaning ys)
  none_alike = (to, back)
    where
      empty : (ds : List Difference) → 0 ≡ length ds → ds ≡ []
      empty [] h = refl
      empty (d ∷ ds) h = absurd (omega arith)

      to : numbers_of r ≡ accepted 0 → map meaning xs ≡ map meaning ys
      to e =
          let d = (p.done 0).0 e in
          let same = (none_same_files a b d.0 d.1 d.3 d.4).0 (empty (files_apart d.0 d.1) d.5) in
          ap (map meaning) (one_sdfile a xs d.0 ga d.3) ∙ same ∙ ap (map meaning) (one_sdfile b d.1 ys d.4 gb)

      back : map meaning xs ≡ map meaning ys → numbers_of r ≡ accepted 0
      back e =
          let n = (none_same_files a b xs ys ga gb).1 e in
          (p.done 0).1 (xs, ys, rooms, ga, gb, sym (ap length n), omega arith)

  -- the other way round: as many, with their sides exchanged
  pub turned_alike : {v₀ v : Work} {m₀ m : List ℤ} {s : Result ℕ TextRefusal} → Promise b a v₀ m₀ s v m → Rooms v₀ →
      7 * length (files_apart xs ys) ≤ length l₀ → 7 * length (files_apart xs ys) ≤ length m₀ →
      (r ≡ s) × (l ≡ flat (files_apart xs ys) ++ drop (7 * length (files_apart xs ys)) l₀)
      × (m ≡ flat (map exchanged (files_apart xs ys)) ++ drop (7 * length (files_apart xs ys)) m₀)
  turned_alike {m₀ = m₀} {s = s} q room h k =
      let t = exchange_files xs ys in
      let n : length (files_apart ys xs) ≡ length (files_apart xs ys) = ap length t ∙ many (files_apart xs ys) in (
        same_answer r s ((p.done (length (files_apart xs ys))).1 (xs, ys, rooms, ga, gb, refl, h)
            ∙ sym ((q.done (length (files_apart xs ys))).1 (ys, xs, room, gb, ga, sym n, k))),
        p.written xs ys rooms ga gb h,
        q.written ys xs room gb ga (omega (arith, n, k)) ∙ ap₂ (λ (ds : List Difference) (j : ℕ). flat ds ++ drop (7 * j) m₀) t n,
      )
    where
      many : (ds : List Difference) → length (map exchanged ds) ≡ length ds
      many [] = refl
      many (d ∷ ds) = ap suc (many ds)

-- ---- The tests

-- a table with room
abbrev Long : ℕ → List ℤ → Type 0
Long cap t = cap ≤ length t

roomy_agrees : (w : Work) → (roomy w ≡ true) ↔ Rooms w
unfolding roomy
roomy_agrees w =
    let oa = w.old_atoms in
    let ob = w.old_bonds in
    let na = w.new_atoms in
    let nb = w.new_bonds in
    let e = both {P = Long atom_places na} {Q = Long bond_places nb} (leb atom_places (length na)) (leb bond_places (length nb)) (leb-true atom_places (length na)) (leb-true bond_places (length nb))
    (le-leb atom_places (length na)) (le-leb bond_places (length nb)) in
    let f = both {P = Long bond_places ob} {Q = Long atom_places na × Long bond_places nb} (leb bond_places (length ob)) _ (leb-true bond_places (length ob)) e.0 (le-leb bond_places (length ob)) e.1 in
    let g = both {P = Long atom_places oa} {Q = Long bond_places ob × (Long atom_places na × Long bond_places nb)} (leb atom_places (length oa)) _ (leb-true atom_places (length oa)) f.0 (le-leb atom_places (length oa)) f.1 in (
      (λ h. let z = g.0 h in record { old = record { atoms = z.0; bonds = z.1.0 }; new = record { atoms = z.1.1.0; bonds = z.1.1.1 } }),
      (λ r. g.1 (r.old.atoms, (r.old.bonds, (r.new.atoms, r.new.bonds)))),
    )

roomy_false : (w : Work) → ¬ Rooms w → roomy w ≡ false
roomy_false w h = go (roomy w) refl
  where
    go : (t : Bool) → roomy w ≡ t → roomy w ≡ false
    go true e = absurd (h ((roomy_agrees w).0 e))
    go false e = e

-- ---- The definitions keep the promise

module _ (a b : Bytes) (w : Work) (k : ℕ) where
  -- what was found, with its reason
  data Found : Verdict (List Difference) → Type 0 where
    tables : ¬ Rooms w → Found (refused 2 0 0)
    old : {e i c : ℕ} → Rooms w → verdict sdfile limit a ≡ refused e i c → Found (refused 36 i c)
    new : {xs : List Raw} {e i c : ℕ} → Rooms w → verdict sdfile limit a ≡ accepted xs → verdict sdfile limit b ≡ refused e i c → Found (refused 37 i c)
    list : {xs ys : List Raw} → Rooms w → verdict sdfile limit a ≡ accepted xs → verdict sdfile limit b ≡ accepted ys → k < 7 * length (files_apart xs ys) → Found (refused 39 0 0)
    fine : {xs ys : List Raw} → Rooms w → verdict sdfile limit a ≡ accepted xs → verdict sdfile limit b ≡ accepted ys → 7 * length (files_apart xs ys) ≤ k → Found (accepted (files_apart xs ys))

  found : Found (compared_for w a b k)
  unfolding compared_for files_for
  found = go (roomy w) refl (verdict sdfile limit a) refl (verdict sdfile limit b) refl
    where
      fit : (xs ys : List Raw) → Rooms w → verdict sdfile limit a ≡ accepted xs → verdict sdfile limit b ≡ accepted ys →
          (t : Bool) → leb (7 * length (files_apart xs ys)) k ≡ t → Found (cond t (accepted (files_apart xs ys)) (refused 39 0 0))
      fit xs ys r e f true t = Found.fine r e f (leb-true (7 * length (files_apart xs ys)) k t)
      fit xs ys r e f false t = Found.list r e f (leb-false (7 * length (files_apart xs ys)) k t)

      go : (t : Bool) → roomy w ≡ t → (u : Verdict (List Raw)) → verdict sdfile limit a ≡ u → (v : Verdict (List Raw)) → verdict sdfile limit b ≡ v → Found (cond t (first k u v) (refused 2 0 0))
      go false o u e v f = Found.tables (λ r. false≢true (sym o ∙ (roomy_agrees w).1 r))
      go true o (accepted xs) e (accepted ys) f = fit xs ys ((roomy_agrees w).0 o) e f (leb (7 * length (files_apart xs ys)) k) refl
      go true o (accepted xs) e (refused n i c) f = Found.new ((roomy_agrees w).0 o) e f
      go true o (refused n i c) e v f = Found.old ((roomy_agrees w).0 o) e

  by_tables : ¬ Rooms w → compared_for w a b k ≡ refused 2 0 0
  unfolding compared_for
  by_tables h = rw (roomy_false w h)

  by_files : Rooms w → (u v : Verdict (List Raw)) → verdict sdfile limit a ≡ u → verdict sdfile limit b ≡ v → compared_for w a b k ≡ first k u v
  unfolding compared_for files_for
  by_files r u v e f = rw ((roomy_agrees w).1 r, e, f)

  by_first : Rooms w → (u : Verdict (List Raw)) → verdict sdfile limit a ≡ u → compared_for w a b k ≡ first k u (verdict sdfile limit b)
  by_first r u e = by_files r u (verdict sdfile limit b) e refl

  module _ (r : Rooms w) (xs ys : List Raw) (ga : GoodSDfile a xs) (gb : GoodSDfile b ys) where
    by_good : compared_for w a b k ≡ within k (files_apart xs ys)
    by_good = by_files r (accepted xs) (accepted ys) ((accepted_sd limit a xs).1 ga) ((accepted_sd limit b ys).1 gb)

    by_room_lem : 7 * length (files_apart xs ys) ≤ k → compared_for w a b k ≡ accepted (files_apart xs ys)
    by_room_lem h = by_good ∙ ap (λ (t : Bool). cond t (accepted (files_apart xs ys)) (refused 39 0 0)) (le-leb (7 * length (files_apart xs ys)) k h)

    by_short : k < 7 * length (files_apart xs ys) → compared_for w a b k ≡ refused 39 0 0
    by_short h = by_good ∙ ap (λ (t : Bool). cond t (accepted (files_apart xs ys)) (refused 39 0 0)) (lt-leb (7 * length (files_apart xs ys)) k h)

  done_by : (n : ℕ) {v : Verdict (List Difference)} → Found v → numbers_of (answer_by v) ≡ accepted n →
      (xs : List Raw) × (ys : List Raw) × Rooms w × GoodSDfile a xs × GoodSDfile b ys × (n ≡ length (files_apart xs ys)) × (7 * n ≤ k)
  done_by n (Found.tables h) q = accepted_refused (sym q)
  done_by n (Found.old r e) q = accepted_refused (sym q)
  done_by n (Found.new r e f) q = accepted_refused (sym q)
  done_by n (Found.list r e f h) q = accepted_refused (sym q)
  done_by n (Found.fine {xs = xs} {ys = ys} r e f h) q =
      let m : n ≡ length (files_apart xs ys) = sym (same_accepted q) in
      (xs, ys, r, (accepted_sd limit a xs).0 e, (accepted_sd limit b ys).0 f, m, omega (arith, m, h))

  refused_by : (n j d : ℕ) {v : Verdict (List Difference)} → Found v → numbers_of (answer_by v) ≡ refused n j d → Refusal a b w k n j d
  refused_by n j d (Found.tables h) q = same_reason (Refusal a b w k) q (Refusal.tables h)
  refused_by n j d (Found.old {e = e} {i = i} {c = c} r f) q = same_reason (Refusal a b w k) q (Refusal.old r (refused_at_lem a e i c f))
  refused_by n j d (Found.new {xs = xs} {e = e} {i = i} {c = c} r f g) q =
      same_reason (Refusal a b w k) q (Refusal.new r ((accepted_sd limit a xs).0 f) (refused_at_lem b e i c g))
  refused_by n j d (Found.list {xs = xs} {ys = ys} r e f h) q =
      same_reason (Refusal a b w k) q (Refusal.list r ((accepted_sd limit a xs).0 e) ((accepted_sd limit b ys).0 f) h)
  refused_by n j d (Found.fine r e f h) q = accepted_refused q

  by_refusal : {n j d : ℕ} → Refusal a b w k n j d → compared_for w a b k ≡ refused n j d
  by_refusal (Refusal.tables h) = by_tables h
  by_refusal (Refusal.old {e = e} {line = i} {column = c} r f) = by_first r (refused e i c) (at_refused a e i c f)
  by_refusal (Refusal.new {xs = xs} {e = e} {line = i} {column = c} r g f) = by_files r (accepted xs) (refused e i c) ((accepted_sd limit a xs).1 g) (at_refused b e i c f)
  by_refusal (Refusal.list {xs = xs} {ys = ys} r g h f) = by_short r xs ys g h f

list_by_lem : (l : List ℤ) (n j d : ℕ) (v : Verdict (List Difference)) → numbers_of (answer_by v) ≡ refused n j d → list_by l v ≡ l
list_by_lem l n j d (accepted ds) q = accepted_refused q
list_by_lem l n j d (refused e i c) q = refl

module _ (a b : Bytes) (w₀ : Work) (l₀ : List ℤ) where
  promise : (r : Result ℕ TextRefusal) (w : Work) (l : List ℤ) → r ≡ answer_by (compared_for w₀ a b (length l₀)) → l ≡ list_by l₀ (compared_for w₀ a b (length l₀)) → w ≡ work_after w₀ → Promise a b w₀ l₀ r w l
  unfolding work_after
  promise r w l e f g =
      let k = length l₀ in
      record {
        answer = e;
        list = f;
        tables = g;
        done = λ n. (
          (λ h. done_by a b w₀ k n (found a b w₀ k) (sym (ap numbers_of e) ∙ h)),
          (λ x. ap numbers_of (e ∙ ap answer_by (by_room_lem a b w₀ k x.2 x.0 x.1 x.3 x.4 (omega (arith, x.5, x.6)))) ∙ ap accepted (sym x.5)),
        );
        written = λ xs ys r ga gb h. f ∙ ap (list_by l₀) (by_room_lem a b w₀ k r xs ys ga gb h);
        refused = λ n j d. (
          (λ h. refused_by a b w₀ k n j d (found a b w₀ k) (sym (ap numbers_of e) ∙ h)),
          (λ h. ap numbers_of (e ∙ ap answer_by (by_refusal a b w₀ k h))),
        );
        untouched = λ n j d h. f ∙ list_by_lem l₀ n j d (compared_for w₀ a b k) (sym (ap numbers_of e) ∙ h);
        emptied = λ y. g ∙ ap (λ (t : Bool). cond t (emptied w₀) w₀) ((roomy_agrees w₀).1 y);
        kept = λ y. g ∙ ap (λ (t : Bool). cond t (emptied w₀) w₀) (roomy_false w₀ y);
      }

  pub promise_short : ¬ Rooms w₀ → Promise a b w₀ l₀ (Err (record { no = 2; line = 0; column = 0 })) w₀ l₀
  unfolding work_after
  promise_short h =
      let v = by_tables a b w₀ (length l₀) h in
      promise (Err (record { no = 2; line = 0; column = 0 })) w₀ l₀ (sym (ap answer_by v)) (sym (ap (list_by l₀) v)) (sym (ap (λ (t : Bool). cond t (emptied w₀) w₀) (roomy_false w₀ h)))

  pub promise_long : Rooms w₀ → (r : Result ℕ TextRefusal) (l : List ℤ) → r ≡ answer_by (files_for a b (length l₀)) → l ≡ list_by l₀ (files_for a b (length l₀)) → Promise a b w₀ l₀ r (emptied w₀) l
  unfolding work_after compared_for
  promise_long y r l e f =
      let t = (roomy_agrees w₀).1 y in
      promise r (emptied w₀) l (rw t e) (rw t f) (rw t)
