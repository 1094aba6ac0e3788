-- What is said keeps the promise, and nothing else does: one answer, and one memory, for every input.
use Prim.Native.Nat.{ℕ, zero, suc, ◌+◌, ◌*◌, ◌≤◌, ◌<◌}
use Rattle.std.proofs.Common.{arith, add-one, ◌∙◌, subst, true≢false, length-append, length-drop, take-append-drop, drop_of_length-le, take-add, drop-drop, length-take-le, take_all, take_at, drop_at, leb-true, le-leb}
use Rattle.std.specs.Prelude.{◌≡◌, Bool, true, false, cond, leb, length, get_or, drop, replicate}
use Rattle.std.proofs.Math.Path.{refl, sym, ap, ap₂}
use mathlib.Core.List.{List, [], ◌∷◌, ◌++◌, map, append-nil}
use Rattle.std.proofs.lemmas.Bool.{false≢true}
use Rattle.std.proofs.Math.ListN.{take}
use Rattle.std.proofs.lemmas.List.{length-replicate}
use Rattle.std.proofs.Math.Seq.{drop-cons}
use Rattle.text.specs.Text.{Bytes}
use Rattle.rules.specs.Record.{Raw, GoodSDfile, limit}
use Rattle.judge_file.specs.Place.{sdfile}
use Rattle.judge_file.specs.Verdict.{Verdict, verdict}
use Rattle.judge_file.proofs.Promise.{accepted_sd}
use Rattle.reader_walk.specs.Promise.{Checked, said_by, verdict_checked, checked_one}
use Rattle.tally_rules.specs.declared.Tally.{Tally}
use Rattle.tally_rules.specs.declared.Totals.{Totals}
use Rattle.tally_rules.specs.Tally.{most_suppliers, longest}
use Rattle.tally_rules.specs.Book.{Book, Good, Outcome, tallied}
use Rattle.tally_rules.specs.Book as B
use Rattle.tally_flat.specs.Flat.{Memory, memory, name_bytes, Sized, tally_at, tallies_from, tallies_in}
use Rattle.tally_good.specs.Judge.{book_of, good_book}
use Rattle.tally_good.specs.Agree.{good_told_lem, told_good}
use Rattle.tally_file.specs.declared.Tallied.{Tallied}
use Rattle.tally_file.specs.Count.{Said, added, refused, by_outcome, by_verdict, said_of, told_of, is_done, answer_of, LeftList}
use Rattle.tally_file.specs.Promise.{Roomy, front, over, Tells, LaidOver, LeftOver, TallyPromise}

-- ---- What is said of a file

pub told : (s : Bytes) (b : Book) → Tells s b (said_of s b)
unfolding said_of
told s b = go (verdict sdfile limit s) refl
  where
    by : (xs : List Raw) → GoodSDfile s xs → (o : Outcome) → tallied b xs ≡ o → Tells s b (by_outcome (length xs) o)
    by xs g (B.whole d) e = Tells.whole g e
    by xs g (B.stopped n k) e = Tells.stopped g e

    go : (v : Verdict (List Raw)) → verdict sdfile limit s ≡ v → Tells s b (by_verdict b v)
    go (Verdict.accepted xs) e = let g = (accepted_sd limit s xs).0 e in by xs (g.0, g.1, g.2) (tallied b xs) refl
    go (Verdict.refused n i c) e = Tells.bad_file (subst (λ (v : Verdict (List Raw)). Checked sdfile s (said_by v)) e (verdict_checked s sdfile))

pub tells_said : (s : Bytes) (b : Book) {w : Said} → Tells s b w → said_of s b ≡ w
unfolding said_of
tells_said s b (Tells.whole {xs = xs} g e) = ap (by_verdict b) ((accepted_sd limit s xs).1 (g.0, g.1, g.2)) ∙ ap (by_outcome (length xs)) e
tells_said s b (Tells.stopped {xs = xs} g e) = ap (by_verdict b) ((accepted_sd limit s xs).1 (g.0, g.1, g.2)) ∙ ap (by_outcome (length xs)) e
tells_said s b (Tells.bad_file {e = e} {i = i} {column = c} k) = go (verdict sdfile limit s) (checked_one 1 s (Verdict.refused e i c) (said_by (verdict sdfile limit s)) k (verdict_checked s sdfile))
  where
    go : (v : Verdict (List Raw)) → Verdict.refused e i c ≡ said_by v → by_verdict b v ≡ refused e i c 0
    go (Verdict.accepted xs) h = absurd (let z : ◌≡◌ {A = ℕ} 0 1 = cc in omega arith)
    go (Verdict.refused n j d) h =
        let x : n ≡ e = cc in
        let y : j ≡ i = cc in
        let z : d ≡ c = cc in
        rw (x, y, z)

-- ---- The tallies tell the memory

unfoldable rooms_of : List Tally → List ℕ
rooms_of [] = []
rooms_of (t ∷ ts) = t.name ++ rooms_of ts

rooms_are : (m : Memory) (i k : ℕ) → rooms_of (tallies_from m i k) ≡ take (longest * k) (drop (longest * i) m.names)
unfolding rooms_of tallies_from
rooms_are m i zero = refl
rooms_are m i (suc k) =
    let a : longest * (i + 1) ≡ longest * i + longest = omega arith in
    let b : longest * suc k ≡ longest + longest * k = omega arith in
    let x = drop (longest * i) m.names in
    ap (λ (ns : List ℕ). take longest x ++ ns) (rooms_are m (i + 1) k ∙ ap (λ (j : ℕ). take (longest * k) (drop j m.names)) a ∙ ap (take (longest * k)) (sym (drop-drop longest (longest * i) m.names)))
    ∙ sym (ap (λ (j : ℕ). take j x) b ∙ take-add longest (longest * k) x)

-- a number of each tally, and the column that has them
module _ (f : Tally → ℕ) (column : Memory → List ℕ) (is : (m : Memory) (i : ℕ) → f (tally_at m i) ≡ get_or (column m) i 0) where
  column_are : (m : Memory) (i k : ℕ) → i + k ≤ length (column m) → map f (tallies_from m i k) ≡ take k (drop i (column m))
  unfolding tallies_from
  column_are m i zero h = refl
  column_are m i (suc k) h =
      let e = drop-cons (column m) i 0 (omega arith) in
      ap₂ ◌∷◌ (is m i) (column_are m (i + 1) k (omega arith) ∙ ap (λ (j : ℕ). take k (drop j (column m))) (add-one i)) ∙ sym (ap (take (suc k)) e)

  column_one : (m n : Memory) → length (column m) ≡ most_suppliers → length (column n) ≡ most_suppliers → tallies_in m ≡ tallies_in n → column m ≡ column n
  column_one m n g h e =
      sym (column_are m 0 most_suppliers (omega arith) ∙ take_all most_suppliers (column m) (omega arith))
      ∙ ap (map f) e
      ∙ column_are n 0 most_suppliers (omega arith)
      ∙ take_all most_suppliers (column n) (omega arith)

pub memory_one : (m n : Memory) → Sized m → Sized n → tallies_in m ≡ tallies_in n → m ≡ n
memory_one m n g h e =
    let a : m.names ≡ n.names =
    sym (rooms_are m 0 most_suppliers ∙ take_all name_bytes m.names (omega (arith, g.names))) ∙ ap rooms_of e ∙ rooms_are n 0 most_suppliers ∙ take_all name_bytes n.names (omega (arith, h.names)) in
    let b = column_one (λ (t : Tally). t.length) (λ (x : Memory). x.lengths) (λ x i. refl) m n g.lengths h.lengths e in
    let c = column_one (λ (t : Tally). t.count) (λ (x : Memory). x.counts) (λ x i. refl) m n g.counts h.counts e in
    λ i. record { names = a i; lengths = b i; counts = c i }

pub front_sized : (m : Memory) → Roomy m → Sized (front m)
front_sized m y =
    record {
      names = length-take-le name_bytes m.names y.names;
      lengths = length-take-le most_suppliers m.lengths y.lengths;
      counts = length-take-le most_suppliers m.counts y.counts;
    }

-- the first and the rest tell a list
parts_one : (n : ℕ) (xs ys : List ℕ) → take n xs ≡ take n ys → drop n xs ≡ drop n ys → xs ≡ ys
parts_one n xs ys a b = sym (take-append-drop n xs) ∙ ap₂ ◌++◌ a b ∙ take-append-drop n ys

laid_roomy : {d : Book} {m n : Memory} → Roomy m → LaidOver d m n → Roomy n
laid_roomy y a =
    record {
      names = omega (arith, y.names, a.names_size);
      lengths = omega (arith, y.lengths, a.lengths_size);
      counts = omega (arith, y.counts, a.counts_size);
    }

laid_over_one : (d : Book) (m n k : Memory) → Roomy m → LaidOver d m n → LaidOver d m k → n ≡ k
laid_over_one d m n k y a b =
    let f = memory_one (front n) (front k) (front_sized n (laid_roomy y a)) (front_sized k (laid_roomy y b)) (a.tallies ∙ sym b.tallies) in
    let p = parts_one name_bytes n.names k.names (ap (λ (x : Memory). x.names) f) (a.names_past ∙ sym b.names_past) in
    let q = parts_one most_suppliers n.lengths k.lengths (ap (λ (x : Memory). x.lengths) f) (a.lengths_past ∙ sym b.lengths_past) in
    let r = parts_one most_suppliers n.counts k.counts (ap (λ (x : Memory). x.counts) f) (a.counts_past ∙ sym b.counts_past) in
    λ i. record { names = p i; lengths = q i; counts = r i }

left_one : (w : Said) (m n k : Memory) → Roomy m → LeftOver w m n → LeftOver w m k → n ≡ k
left_one (added j d) m n k y a b = laid_over_one d m n k y a b
left_one (refused e i c j) m n k y a b = a ∙ sym b

-- ---- One promise

abbrev roomy : Memory → Bool
roomy m = cond (leb name_bytes (length m.names)) (cond (leb most_suppliers (length m.lengths)) (leb most_suppliers (length m.counts)) false) false

roomy_true : (m : Memory) → roomy m ≡ true → Roomy m
roomy_true m h = go (leb name_bytes (length m.names)) refl (leb most_suppliers (length m.lengths)) refl h
  where
    go : (a : Bool) → leb name_bytes (length m.names) ≡ a → (b : Bool) → leb most_suppliers (length m.lengths) ≡ b → cond a (cond b (leb most_suppliers (length m.counts)) false) false ≡ true → Roomy m
    go true e true f q = record { names = leb-true name_bytes (length m.names) e; lengths = leb-true most_suppliers (length m.lengths) f; counts = leb-true most_suppliers (length m.counts) q }
    go true e false f q = absurd (false≢true q)
    go false e b f q = absurd (false≢true q)

roomy_is : (m : Memory) → Roomy m → roomy m ≡ true
roomy_is m y = rw (le-leb name_bytes (length m.names) y.names, le-leb most_suppliers (length m.lengths) y.lengths, le-leb most_suppliers (length m.counts) y.counts)

module _ (s : Bytes) (m : Memory) (t : Totals) where
  abbrev Same : Tallied → Memory → Tallied → Memory → Type 0
  Same r n q k = (r ≡ q) × (n ≡ k)

  pub one_promise : (r : Tallied) (n : Memory) (q : Tallied) (k : Memory) → TallyPromise s m t r n → TallyPromise s m t q k → (r ≡ q) × (n ≡ k)
  one_promise r n q k a b = go (roomy m) refl (good_book (book_of (front m) t)) refl
    where
      none : ¬ (Roomy m × Good (book_of (front m) t)) → Same r n q k
      none h = let x = a.no_list h in let y = b.no_list h in (x.0 ∙ sym y.0, x.1 ∙ sym y.1)

      go : (u : Bool) → roomy m ≡ u → (v : Bool) → good_book (book_of (front m) t) ≡ v → Same r n q k
      go false e v f = none (λ h. false≢true (sym e ∙ roomy_is m h.0))
      go true e false f = none (λ h. false≢true (sym f ∙ told_good (book_of (front m) t) h.1))
      go true e true f =
          let y = roomy_true m e in
          let g = good_told_lem (book_of (front m) t) f in
          let x = a.tells y g in
          let z = b.tells y g in
          let w : x.0 ≡ z.0 = sym (tells_said s (book_of (front m) t) x.1) ∙ tells_said s (book_of (front m) t) z.1 in
          (x.2 ∙ ap told_of w ∙ sym z.2, left_one z.0 m n k y (subst (λ (o : Said). LeftOver o m n) w x.3) z.3)

  -- ---- The code's ends

  pub no_room : ¬ Roomy m → TallyPromise s m t (Tallied.Refused 2 0 0 0) m
  no_room h = record { no_list = λ _. (refl, refl); tells = λ y g. absurd (h y) }

  pub few_names : length m.names < name_bytes → (r : Tallied) → r ≡ Tallied.Refused 2 0 0 0 → TallyPromise s m t r m
  few_names h r e = subst (λ (q : Tallied). TallyPromise s m t q m) (sym e) (no_room (λ y. omega (arith, h, y.names)))

  pub few_lengths : length m.lengths < most_suppliers → (r : Tallied) → r ≡ Tallied.Refused 2 0 0 0 → TallyPromise s m t r m
  few_lengths h r e = subst (λ (q : Tallied). TallyPromise s m t q m) (sym e) (no_room (λ y. omega (arith, h, y.lengths)))

  pub few_counts : length m.counts < most_suppliers → (r : Tallied) → r ≡ Tallied.Refused 2 0 0 0 → TallyPromise s m t r m
  few_counts h r e = subst (λ (q : Tallied). TallyPromise s m t q m) (sym e) (no_room (λ y. omega (arith, h, y.counts)))

-- ---- The copy

-- over a list of its own length
pub over_whole : (n : ℕ) (xs ys : List ℕ) → length ys ≡ n → over n xs ys ≡ take n xs
over_whole n xs ys h = let l : length ys ≤ n = omega arith in ap (λ (zs : List ℕ). take n xs ++ zs) (drop_of_length-le ys l) ∙ append-nil (take n xs)

pub over_length : (n : ℕ) (xs ys : List ℕ) → n ≤ length xs → n ≤ length ys → length (over n xs ys) ≡ length ys
over_length n xs ys h k =
    let a = length-append (take n xs) (drop n ys) in
    let b = length-take-le n xs h in
    let c = length-drop n ys in
    omega (arith, a, b, c)

over_take : (n : ℕ) (xs ys : List ℕ) → length xs ≡ n → take n (over n xs ys) ≡ xs
over_take n xs ys h = ap (λ (zs : List ℕ). take n (zs ++ drop n ys)) (take_all n xs (omega arith)) ∙ take_at xs (drop n ys) n h

over_drop : (n : ℕ) (xs ys : List ℕ) → length xs ≡ n → drop n (over n xs ys) ≡ drop n ys
over_drop n xs ys h = ap (λ (zs : List ℕ). drop n (zs ++ drop n ys)) (take_all n xs (omega arith)) ∙ drop_at xs (drop n ys) n h

-- what is copied first is the list's front
pub copied_front : (m : Memory) (ns ls cs : List ℕ) → ns ≡ over name_bytes m.names (replicate name_bytes 0) → ls ≡ over most_suppliers m.lengths (replicate most_suppliers 0) →
    cs ≡ over most_suppliers m.counts (replicate most_suppliers 0) → memory ns ls cs ≡ front m
copied_front m ns ls cs a b c =
    let p = a ∙ over_whole name_bytes m.names (replicate name_bytes 0) (length-replicate {A = ℕ} name_bytes 0) in
    let q = b ∙ over_whole most_suppliers m.lengths (replicate most_suppliers 0) (length-replicate {A = ℕ} most_suppliers 0) in
    let r = c ∙ over_whole most_suppliers m.counts (replicate most_suppliers 0) (length-replicate {A = ℕ} most_suppliers 0) in
    λ i. record { names = p i; lengths = q i; counts = r i }

module _ (s : Bytes) (m : Memory) (t : Totals) (y : Roomy m) (m₀ : Memory) (e₀ : m₀ ≡ front m) (r : Tallied) (er : r ≡ answer_of s m₀ t) where
  abbrev b : Book
  b = book_of (front m) t

  answer_is : r ≡ cond (good_book b) (told_of (said_of s b)) (Tallied.Refused 2 0 0 0)
  unfolding answer_of
  answer_is = er ∙ ap (λ (x : Memory). answer_of s x t) e₀

  bad : {X : Type 0} → good_book b ≡ false → Good b → X
  bad h g = absurd (false≢true (sym h ∙ told_good b g))

  pub copy_not : is_done r ≡ false → TallyPromise s m t r m
  copy_not h = go (good_book b) refl answer_is
    where
      left : (w : Said) → is_done (told_of w) ≡ false → LeftOver w m m
      left (added k d) q = absurd (true≢false q)
      left (refused e i c k) q = refl

      go : (v : Bool) → good_book b ≡ v → r ≡ cond v (told_of (said_of s b)) (Tallied.Refused 2 0 0 0) → TallyPromise s m t r m
      go false f q = record { no_list = λ _. (q, refl); tells = λ _ g. bad f g }
      go true f q =
          record {
            no_list = λ n. absurd (n (y, good_told_lem b f));
            tells = λ _ g. (said_of s b, told s b, q, left (said_of s b) (ap is_done (sym q) ∙ h));
          }

  module _ (m₁ : Memory) (l : LeftList s m₀ t m₁) where
    left_is : LeftList s (front m) t m₁
    left_is = subst (λ (x : Memory). LeftList s x t m₁) e₀ l

    pub copy_done : is_done r ≡ true → (ns ls cs : List ℕ) → ns ≡ over name_bytes m₁.names m.names → ls ≡ over most_suppliers m₁.lengths m.lengths →
        cs ≡ over most_suppliers m₁.counts m.counts → TallyPromise s m t r (memory ns ls cs)
    copy_done h ns ls cs en el ec = go (good_book b) refl answer_is
      where
        front_is : front (memory ns ls cs) ≡ m₁
        front_is =
            let p = ap (take name_bytes) en ∙ over_take name_bytes m₁.names m.names left_is.sized.names in
            let q = ap (take most_suppliers) el ∙ over_take most_suppliers m₁.lengths m.lengths left_is.sized.lengths in
            let u = ap (take most_suppliers) ec ∙ over_take most_suppliers m₁.counts m.counts left_is.sized.counts in
            λ i. record { names = p i; lengths = q i; counts = u i }

        laid_over : good_book b ≡ true → (k : ℕ) (d : Book) → said_of s b ≡ added k d → LaidOver d m (memory ns ls cs)
        laid_over f k d e =
            record {
              tallies = ap tallies_in front_is ∙ (left_is.left f).tallies k d e;
              names_size = ap length en ∙ over_length name_bytes m₁.names m.names (omega (arith, left_is.sized.names)) y.names;
              lengths_size = ap length el ∙ over_length most_suppliers m₁.lengths m.lengths (omega (arith, left_is.sized.lengths)) y.lengths;
              counts_size = ap length ec ∙ over_length most_suppliers m₁.counts m.counts (omega (arith, left_is.sized.counts)) y.counts;
              names_past = ap (drop name_bytes) en ∙ over_drop name_bytes m₁.names m.names left_is.sized.names;
              lengths_past = ap (drop most_suppliers) el ∙ over_drop most_suppliers m₁.lengths m.lengths left_is.sized.lengths;
              counts_past = ap (drop most_suppliers) ec ∙ over_drop most_suppliers m₁.counts m.counts left_is.sized.counts;
            }

        leftover : good_book b ≡ true → (w : Said) → said_of s b ≡ w → is_done (told_of w) ≡ true → LeftOver w m (memory ns ls cs)
        leftover f (added k d) e q = laid_over f k d e
        leftover f (refused e i c k) x q = absurd (false≢true q)

        go : (v : Bool) → good_book b ≡ v → r ≡ cond v (told_of (said_of s b)) (Tallied.Refused 2 0 0 0) → TallyPromise s m t r (memory ns ls cs)
        go false f q = absurd (false≢true (ap is_done (sym q) ∙ h))
        go true f q =
            record {
              no_list = λ n. absurd (n (y, good_told_lem b f));
              tells = λ _ g. (said_of s b, told s b, q, leftover f (said_of s b) refl (ap is_done (sym q) ∙ h));
            }
