-- The walk over a good file: what is counted from the start is counted from here.
use Rattle.std.specs.Prelude.{Result, Ok, Err, ℕ, ◌+◌, ◌-◌, ◌*◌, ◌^◌, ◌≤◌, ◌<◌, Bool, true, false, take}
use Rattle.std.proofs.Common.{arith, ◌∙◌, Fits}
use Rattle.std.proofs.Math.Path.{◌≡◌, refl, sym, ap, ap₂, subst}
use mathlib.Core.List.{List, [], ◌∷◌, ◌++◌, append_assoc}
use Rattle.std.proofs.lemmas.Bool.{false≢true}
use Rattle.std.proofs.Math.ListN.{length, drop, drop_of_length-le}
use Rattle.std.proofs.Math.Seq.{drop_at, take-append_seam}
use Rattle.std.specs.Int.{w64}
use Rattle.text.specs.Text.{Bytes}
use Rattle.text.specs.Laws.{tail_is}
use Rattle.rules.specs.Record.{Raw, limit}
use Rattle.line_counts_bonds.specs.declared.Counts.{Counts}
use Rattle.judge_file.specs.Place.{sdfile}
use Rattle.judge_file.specs.Verdict.{Verdict, verdict}
use Rattle.judge_file.specs.WalkText.{after_lines}
use Rattle.reader_end.specs.declared.Walked.{Walked}
use Rattle.reader_walk.specs.Outcome as O
use Rattle.reader_walk.specs.Outcome.{outcome_of}
use Rattle.reader_walk.specs.Walked.{walked_by, walk_of}
use Rattle.judge_file.specs.declared.TextRefusal.{TextRefusal}
use Rattle.reader_check.specs.Promised.{Promised, numbers_of}
use Rattle.reader_walk.specs.Promise.{said_by}
use Rattle.reader_cursor.specs.declared.Cursor.{Cursor}
use Rattle.reader_cursor.specs.Walk.{fresh, past, Countable}
use Rattle.reader_cursor.specs.After.{After, after_start, after_next, after_less, after_fits, after_good, good_more, good_whole}
use Rattle.tally_rules.specs.declared.Tally.{Tally}
use Rattle.tally_rules.specs.declared.Totals.{Totals}
use Rattle.tally_rules.specs.Tally.{most_suppliers, Supplier, supplier_of}
use Rattle.tally_rules.specs.Book.{Book, Good, record_on, tally_from, tallied}
use Rattle.tally_rules.specs.Book as B
use Rattle.tally_rules.specs.Kept.{OneMore, tally_next, tally_stop}
use Rattle.tally_rules.proofs.Kept.{record_more}
use Rattle.tally_flat.specs.Flat.{Memory, Sized, tallies_from, tallies_in, laid}
use Rattle.tally_flat.specs.Memory.{tallies_length, tallies_take}
use Rattle.tally_good.specs.Judge.{book_of, good_book}
use Rattle.tally_good.specs.Agree.{few_entries, good_told_lem}
use Rattle.tally_file.specs.declared.Step.{Step}
use Rattle.tally_file.specs.declared.Tallied.{Tallied}
use Rattle.tally_file.specs.Count.{ListReady, FileReady, PastReady, supplier_by, supplier_at, totals_of, step_of, laid_step, Stepped, Said, added, refused, by_outcome, by_verdict, said_of, told_of, answer_of, Left, LeftList, past_by, past_record}
use Rattle.tally_file.specs.Steps.{laid_twice, laid_self}

-- ---- The cursor past a record

module _ (c : Cursor) (s : Bytes) (w : Walked) (ew : w ≡ walk_of sdfile s) where
  pub past_fits : PastReady c s → (cs : Counts) (len k h a b : ℕ) → w ≡ Walked.Whole cs len k h a b → Countable c len k
  unfolding walk_of
  past_fits g cs len k h a b q = go (outcome_of sdfile s) refl (sym ew ∙ q)
    where
      go : (o : O.Outcome) → outcome_of sdfile s ≡ o → walked_by sdfile s o ≡ Walked.Whole cs len k h a b → Countable c len k
      go (O.whole x j) e z =
          let jk : j ≡ k = cc in
          let le : after_lines s 0 j ≡ len = cc in
          subst (λ (i : ℕ). Countable c len i) jk (subst (λ (i : ℕ). Countable c i j) le (g.fits x j e))
      go (O.refused e j d) o z = absurd (let z : ◌≡◌ {A = ℕ} 0 1 = cc in omega arith)

  pub past_whole : (cs : Counts) (len k h a b : ℕ) → w ≡ Walked.Whole cs len k h a b → (d : Cursor) → d ≡ past c len k → d ≡ past_record c s
  unfolding walk_of past_record
  past_whole cs len k h a b q d ed = go (outcome_of sdfile s) refl (sym ew ∙ q)
    where
      go : (o : O.Outcome) → outcome_of sdfile s ≡ o → walked_by sdfile s o ≡ Walked.Whole cs len k h a b → d ≡ past_by c s o
      go (O.whole x j) e z =
          let jk : k ≡ j = cc in
          let le : len ≡ after_lines s 0 j = cc in
          ed ∙ ap₂ (past c) le jk
      go (O.refused e j f) o z = absurd (let z : ◌≡◌ {A = ℕ} 0 1 = cc in omega arith)

  pub past_refused : (e i f : ℕ) → w ≡ Walked.Refused e i f → c ≡ past_record c s
  unfolding walk_of past_record
  past_refused e i f q = go (outcome_of sdfile s) refl (sym ew ∙ q)
    where
      go : (o : O.Outcome) → outcome_of sdfile s ≡ o → walked_by sdfile s o ≡ Walked.Refused e i f → c ≡ past_by c s o
      go (O.whole x j) h z = absurd (let z : ◌≡◌ {A = ℕ} 0 1 = cc in omega arith)
      go (O.refused a j d) h z = refl

pub ruleset past_laws = (past_fits, past_whole, past_refused)

-- ---- The loop

-- the cursor stands after some records, and they are counted; past the tallies in use memory is as it was
pub record Counting (s : Bytes) (m₀ : Memory) (t₀ : Totals) (m : Memory) (t : Totals) (c : Cursor) : Type 0 where
  pub ready : FileReady s m₀ t₀
  pub bytes : length s * 1 < 2 ^ 63
  pub xs : List Raw
  pub after : After s xs c
  pub sized : Sized m
  pub good : Good (book_of m t)
  pub same : tallied (book_of m₀ t₀) ready.zs ≡ tally_from c.records (book_of m t) (drop (length xs) ready.zs)
  pub kept : tallies_in m ≡ laid (tallies_from m 0 t.entries) (tallies_in m₀)

pub counting_start : (s : Bytes) (m : Memory) (t : Totals) (c : Cursor) → FileReady s m t → length s * 1 < 2 ^ 63 → c ≡ fresh → Counting s m t m t c
counting_start s m t c g few e =
    subst (Counting s m t m t) (sym e)
    (record {
      ready = g;
      bytes = few;
      xs = [];
      after = after_start s;
      sized = g.sized;
      good = g.good;
      same = refl;
      kept = laid_self m t.entries (few_entries m t g.good);
    })

module _ (s : Bytes) (m₀ : Memory) (t₀ : Totals) (m : Memory) (t : Totals) (c : Cursor) (g : Counting s m₀ t₀ m t c) where
  abbrev zs : List Raw
  zs = g.ready.zs

  abbrev book₀ : Book
  book₀ = book_of m₀ t₀

  abbrev w : Said
  w = said_of s book₀

  said_is : w ≡ by_outcome (length zs) (tallied book₀ zs)
  unfolding said_of
  said_is = ap (by_verdict book₀) g.ready.is

  pub counting_ready : ListReady m t
  counting_ready = record { sized = g.sized; good = g.good }

  pub counting_fits : Fits w64 (c.records + 1)
  counting_fits = record { fits = omega (arith, g.after.records, g.after.lines, g.after.inside, g.bytes) }

  -- ---- Nothing is left

  pub counting_over : length s ≤ c.at → (Tallied.Done c.records t ≡ told_of w) × Left w m₀ m
  unfolding tally_from
  counting_over h =
      let v : Verdict.accepted g.xs ≡ Verdict.accepted zs = sym (after_good s g.xs c g.after h) ∙ g.ready.is in
      let x : g.xs ≡ zs = cc in
      let few : length zs ≤ length g.xs = omega (arith, ap length x) in
      let none : drop (length g.xs) zs ≡ [] = drop_of_length-le zs few in
      let done : tallied book₀ zs ≡ B.whole (book_of m t) = g.same ∙ ap (tally_from c.records (book_of m t)) none in
      let say : w ≡ added (length zs) (book_of m t) = said_is ∙ ap (by_outcome (length zs)) done in
      let k : c.records ≡ length zs = g.after.count ∙ ap length x in
      let n = tallies_length m 0 t.entries in (
        ap₂ Tallied.Done k (ap (λ (j : ℕ). record { entries = j; missing = t.missing; total = t.total }) (sym n)) ∙ sym (ap told_of say),
        record {
          sized = g.sized;
          tallies = λ j d q.
              let r : added (length zs) (book_of m t) ≡ added j d = sym say ∙ q in
              let z : book_of m t ≡ d = cc in
              g.kept ∙ ap (λ (b : Book). laid b.tallies (tallies_in m₀)) z;
        },
      )

  -- ---- A record is

  module _ (some : c.at < length s) where
    abbrev part : Bytes
    part = take (length s - c.at) (drop c.at s)

    part_is : part ≡ drop c.at s
    part_is = tail_is s c.at

    record Next : Type 0 where
      x : Raw
      k : ℕ
      is : outcome_of sdfile (drop c.at s) ≡ O.whole x k
      ys : List Raw
      here : drop (length g.xs) zs ≡ x ∷ ys
      there : drop (length (g.xs ++ (x ∷ []))) zs ≡ ys
      supplier : supplier_at part ≡ supplier_of x
      after : After s (g.xs ++ (x ∷ [])) (past c (after_lines (drop c.at s) 0 k) k)

    next : Next
    unfolding supplier_at
    next =
        let h = good_whole s g.xs c g.after zs g.ready.is some in
        let x = h.0 in
        let a = after_next s g.xs c g.after some x h.1 h.2 in
        let more = good_more s (g.xs ++ (x ∷ [])) (past c (after_lines (drop c.at s) 0 h.1) h.1) a zs g.ready.is in
        record {
          x = x;
          k = h.1;
          is = h.2;
          ys = more.0;
          here = ap (drop (length g.xs)) (more.1 ∙ append_assoc g.xs (x ∷ []) more.0) ∙ drop_at g.xs (x ∷ more.0) (length g.xs) refl;
          there = ap (drop (length (g.xs ++ (x ∷ [])))) more.1 ∙ drop_at (g.xs ++ (x ∷ [])) more.0 (length (g.xs ++ (x ∷ []))) refl;
          supplier = ap supplier_by (ap (outcome_of sdfile) part_is ∙ h.2);
          after = a;
        }

    pub counting_past : PastReady c part
    counting_past =
        record {
          fits = λ x k h.
              let e : outcome_of sdfile (drop c.at s) ≡ O.whole x k = ap (outcome_of sdfile) (sym part_is) ∙ h in
              subst (λ (u : Bytes). Countable c (after_lines u 0 k) k) (sym part_is) (after_fits s g.xs c g.after some x k e g.bytes);
        }

    module _ (r : Step) (er : r ≡ step_of (record_on (supplier_at part) (book_of m t))) (m' : Memory) (st : Stepped (record_on (supplier_at part) (book_of m t)) m m') where
      abbrev p : B.Step
      p = record_on (supplier_of next.x) (book_of m t)

      step_is : record_on (supplier_at part) (book_of m t) ≡ p
      step_is = ap (λ (q : Supplier). record_on q (book_of m t)) next.supplier

      pub counting_stop : (e : ℕ) → r ≡ Step.Refused e → (Tallied.Refused e 0 0 (c.records + 1) ≡ told_of w) × Left w m₀ m'
      counting_stop e q = go p refl (sym (er ∙ ap step_of step_is) ∙ q)
        where
          go : (o : B.Step) → p ≡ o → step_of o ≡ Step.Refused e → (Tallied.Refused e 0 0 (c.records + 1) ≡ told_of w) × Left w m₀ m'
          go (B.counted d) h z = absurd (let z : ◌≡◌ {A = ℕ} 0 1 = cc in omega arith)
          go (B.refused n) h z =
              let ne : n ≡ e = cc in
              let stop : tallied book₀ zs ≡ B.stopped n (c.records + 1) =
              g.same ∙ ap (tally_from c.records (book_of m t)) next.here ∙ tally_stop c.records (book_of m t) n next.x next.ys h in
              let say : w ≡ refused n 0 0 (c.records + 1) = said_is ∙ ap (by_outcome (length zs)) stop in (
                ap (λ (j : ℕ). Tallied.Refused j 0 0 (c.records + 1)) (sym ne) ∙ sym (ap told_of say),
                record {
                  sized = st.sized;
                  tallies = λ j d y. let r : refused n 0 0 (c.records + 1) ≡ added j d = sym say ∙ y in absurd (let z : ◌≡◌ {A = ℕ} 0 1 = cc in omega arith);
                },
              )

      module _ (d : Book) (h : p ≡ B.counted d) where
        more : OneMore (supplier_of next.x) (book_of m t) d
        more = record_more (supplier_of next.x) (book_of m t) d h

        laid_d : tallies_in m' ≡ laid d.tallies (tallies_in m)
        laid_d = st.tallies ∙ ap (λ (o : B.Step). laid_step o (tallies_in m)) (step_is ∙ h)

        good_d : Good d
        good_d = more.good g.good

        tallies_d : tallies_from m' 0 (length d.tallies) ≡ d.tallies
        tallies_d =
            sym (tallies_take m' 0 (length d.tallies) most_suppliers good_d.few)
            ∙ ap (take (length d.tallies)) laid_d ∙ take-append_seam d.tallies (drop (length d.tallies) (tallies_in m))

        book_is : book_of m' (totals_of d) ≡ d
        book_is = ap (λ (us : List Tally). record { tallies = us; missing = d.missing; total = d.total }) tallies_d

        all : Counting s m₀ t₀ m' (totals_of d) (past c (after_lines (drop c.at s) 0 next.k) next.k)
        all =
            record {
              ready = g.ready;
              bytes = g.bytes;
              xs = g.xs ++ (next.x ∷ []);
              after = next.after;
              sized = st.sized;
              good = subst Good (sym book_is) good_d;
              same =
                  g.same ∙ ap (tally_from c.records (book_of m t)) next.here ∙ tally_next c.records (book_of m t) d next.x next.ys h
                  ∙ ap₂ (tally_from (c.records + 1)) (sym book_is) (sym next.there);
              kept =
                  laid_d ∙ ap (laid d.tallies) g.kept
                  ∙ laid_twice (tallies_from m 0 t.entries) d.tallies (tallies_in m₀) more.grows
                  ∙ ap (λ (us : List Tally). laid us (tallies_in m₀)) (sym tallies_d);
            }

      module _ (t' : Totals) (q : r ≡ Step.Counted t') (c' : Cursor) (ec : c' ≡ past_record c part) where
        cursor_is : c' ≡ past c (after_lines (drop c.at s) 0 next.k) next.k
        unfolding past_record
        cursor_is = ec ∙ ap (past_record c) part_is ∙ ap (past_by c (drop c.at s)) next.is

        pub counting_less : length s - c'.at < length s - c.at
        counting_less = rw cursor_is (after_less s g.xs c g.after some next.x next.k next.is)

        pub counting_next : Counting s m₀ t₀ m' t' c'
        counting_next = go p refl (sym (er ∙ ap step_of step_is) ∙ q)
          where
            go : (o : B.Step) → p ≡ o → step_of o ≡ Step.Counted t' → Counting s m₀ t₀ m' t' c'
            go (B.counted d) h z =
                let y : totals_of d ≡ t' = cc in
                subst (Counting s m₀ t₀ m' t') (sym cursor_is) (subst (λ (u : Totals). Counting s m₀ t₀ m' u (past c (after_lines (drop c.at s) 0 next.k) next.k)) y (all d h))
            go (B.refused n) h z = absurd (let z : ◌≡◌ {A = ℕ} 0 1 = cc in omega arith)

-- ---- The file is judged first, and the list before it

module _ (s : Bytes) (m : Memory) (t : Totals) (a : Result ℕ TextRefusal) (p : Promised 1 s a) where
  pub file_good : ListReady m t → (k : ℕ) → a ≡ Ok k → FileReady s m t
  file_good g k e = go (verdict sdfile limit s) refl (sym p.judged ∙ ap numbers_of e)
    where
      go : (v : Verdict (List Raw)) → verdict sdfile limit s ≡ v → said_by v ≡ Verdict.accepted k → FileReady s m t
      go (Verdict.accepted xs) h z = record { sized = g.sized; good = g.good; zs = xs; is = h }
      go (Verdict.refused n i c) h z = absurd (let z : ◌≡◌ {A = ℕ} 0 1 = cc in omega arith)

  pub file_bad : Sized m → (r : TextRefusal) → a ≡ Err r → (Tallied.Refused r.no r.line r.column 0 ≡ told_of (said_of s (book_of m t))) × Left (said_of s (book_of m t)) m m
  unfolding said_of
  file_bad z r q = go (verdict sdfile limit s) refl (sym p.judged ∙ ap numbers_of q)
    where
      go : (v : Verdict (List Raw)) → verdict sdfile limit s ≡ v → said_by v ≡ Verdict.refused r.no r.line r.column → (Tallied.Refused r.no r.line r.column 0 ≡ told_of (by_verdict (book_of m t) v)) × Left (by_verdict (book_of m t) v) m m
      go (Verdict.accepted xs) h y = absurd (let z : ◌≡◌ {A = ℕ} 0 1 = cc in omega arith)
      go (Verdict.refused n j d) h y =
          let a : n ≡ r.no = cc in
          let b : j ≡ r.line = cc in
          let f : d ≡ r.column = cc in (
            rw (a, b, f),
            record { sized = z; tallies = λ k d y. absurd (let z : ◌≡◌ {A = ℕ} 0 1 = cc in omega arith) },
          )

module _ (s : Bytes) (m : Memory) (t : Totals) {a : Bool} (ea : a ≡ good_book (book_of m t)) where
  pub list_ready : Sized m → a ≡ true → ListReady m t
  list_ready z h = record { sized = z; good = good_told_lem (book_of m t) (sym ea ∙ h) }

  pub list_told : a ≡ true → (r : Tallied) → r ≡ told_of (said_of s (book_of m t)) → r ≡ answer_of s m t
  unfolding answer_of
  list_told h r e = let z = sym ea ∙ h in e ∙ rw z

  pub list_left : a ≡ true → (m' : Memory) → Left (said_of s (book_of m t)) m m' → LeftList s m t m'
  list_left h m' l = record { sized = l.sized; left = λ _. l }

  pub list_same : Sized m → a ≡ false → LeftList s m t m
  list_same z h = record { sized = z; left = λ g. absurd (false≢true (sym h ∙ ea ∙ g)) }

  pub list_bad : a ≡ false → (r : Tallied) → r ≡ Tallied.Refused 2 0 0 0 → r ≡ answer_of s m t
  unfolding answer_of
  list_bad h r e = let z = sym ea ∙ h in e ∙ rw z
