-- The answer of a cursor over a file: what the array tells in the words of the rules.
use Rattle.std.specs.Prelude.{ℕ, zero, suc, ◌+◌, ◌≤◌, ◌≡◌, ◌↔◌, Bool, true, false, List, ltb, leb, length, drop, ℤ}
use Rattle.std.proofs.Common.{arith, sym, ap, ◌∙◌, subst, ltb-true, ltb-false, leb-true, leb-false}
use Rattle.std.proofs.Math.Path.{refl}
use Rattle.text.specs.Text.{Bytes}
use Rattle.rules.specs.Record.{Raw}
use Rattle.judge_file.specs.Place.{sdfile}
use Rattle.judge_file.specs.Verdict.{Verdict}
use Rattle.judge_file.specs.SameVerdict.{accepted_refused}
use Rattle.reader_answer.specs.Promise.{Reply, Begins, Roomy, Reads}
use Rattle.reader_answer.specs.Told.{reply_of, begins_told}
use Rattle.reader_cursor.specs.declared.Cursor.{Cursor}
use Rattle.reader_file.specs.declared.Next.{Next}
use Rattle.reader_file.specs.Next.{Within}
use Rattle.reader_file.specs.Promise.{Said, found, end, refused, numbers_of, from_here, NextPromise}
use Rattle.capellanote_numbers.specs.Numbers.{next_numbers}
use Rattle.capellanote.specs.Answer.{number, by_first, first_refused, zero_exactly}
use Rattle.capellanote.specs.Read.{by_room_lem, none_numbered}

-- what an array tells: the last number says whether there is a record
abbrev pub cursor_told : List ℕ → Cursor
cursor_told a = record { at = number a 9; lines = number a 10; records = number a 11 }

abbrev pub record_told : List ℕ → Next
record_told a = Next.Record (number a 1) (number a 2) (number a 3) (number a 4) (number a 5) (number a 6) (number a 7) (number a 8) (cursor_told a)

abbrev pub found_told : List ℕ → Next
found_told a = by_first (number a 12) Next.End (λ e. record_told a)

unfoldable pub next_told : List ℕ → Next
next_told a = by_first (number a 0) (found_told a) (λ e. Next.Refused e (number a 1) (number a 2))

-- ---- It tells that answer, since no refusal has the number 0

by_within : {X : Type 0} (c : Cursor) (s : Bytes) → (Within c s → X) → (¬ Within c s → X) → X
by_within {X} c s y n = go (ltb c.at (length s)) refl (leb c.lines c.at) refl (leb c.records c.lines) refl
  where
    go : (t : Bool) → ltb c.at (length s) ≡ t → (u : Bool) → leb c.lines c.at ≡ u → (v : Bool) → leb c.records c.lines ≡ v → X
    go false p u q v r = let h = ltb-false c.at (length s) p in n (λ w. omega (arith, h, w.left))
    go true p false q v r = let h = leb-false c.lines c.at q in n (λ w. omega (arith, h, w.lines))
    go true p true q false r = let h = leb-false c.records c.lines r in n (λ w. omega (arith, h, w.records))
    go true p true q true r =
        y (record { left = ltb-true c.at (length s) p; lines = leb-true c.lines c.at q; records = leb-true c.records c.lines r })

apart_end : {X : Type 0} {e i k : ℕ} → refused e i k ≡ end → X
apart_end h = absurd (let z : ◌≡◌ {A = ℕ} 0 1 = cc in omega arith)

apart_found : {X : Type 0} {e i k : ℕ} {w : Reply} {d : Cursor} → refused e i k ≡ found w d → X
apart_found h = absurd (let z : ◌≡◌ {A = ℕ} 0 1 = cc in omega arith)

same_number : {e i k n j l : ℕ} → refused e i k ≡ refused n j l → e ≡ n
same_number h = cc

module _ (c : Cursor) (s : Bytes) (ta tb ta' tb' : List ℤ) where
  refused_by : (e i column : ℕ) (w : Verdict Reply) → refused e i column ≡ from_here c w → Reads sdfile (drop c.at s) ta tb w ta' tb' → 1 ≤ e
  refused_by e i column (Verdict.accepted w) q r = apart_found q
  refused_by e i column (Verdict.refused n j d) q r = let z = same_number q in omega (arith, z, none_numbered (r.refuses n j d refl).0)

  numbered : (e i column : ℕ) → NextPromise c s ta tb (Next.Refused e i column) ta' tb' → 1 ≤ e
  numbered e i column p =
      by_room_lem ta tb
      (λ y. by_within c s (λ w. let x = p.reads y w in refused_by e i column x.0 x.1 x.2) (λ n. apart_end (p.at_end_lem y n).0))
      (λ n. let z = same_number (p.no_room n).0 in omega (arith, z))

  tells : (x : Next) → NextPromise c s ta tb x ta' tb' → next_told (next_numbers c x) ≡ x
  unfolding next_numbers next_told
  tells (Next.Record n m chiral bytes lines h a b d) p = refl
  tells Next.End p = refl
  tells (Next.Refused e i column) p = first_refused e Next.End (λ (n : ℕ). Next.Refused n i column) (numbered e i column p)

  pub next_told_lem : (x : Next) (out : List ℕ) → out ≡ next_numbers c x → NextPromise c s ta tb x ta' tb' → NextPromise c s ta tb (next_told out) ta' tb'
  next_told_lem x out e p = subst (λ (y : Next). NextPromise c s ta tb y ta' tb') (sym (ap next_told e ∙ tells x p)) p

pub next_held : (c : Cursor) (x y : Next) (out : List ℕ) → out ≡ next_numbers c x → x ≡ y → out ≡ next_numbers c y
next_held c x y out e h = e ∙ ap (next_numbers c) h

-- ---- The first number is 0 exactly where the tables have room, and what is left of the file, if anything, begins with a record

-- what is told with a first number of 0 is no refusal
found_kept : {X : Type 0} (a : List ℕ) (n e i k : ℕ) → numbers_of (by_first n Next.End (λ (j : ℕ). record_told a)) ≡ refused e i k → X
found_kept a zero e i k h = apart_end (sym h)
found_kept a (suc n) e i k h = apart_found (sym h)

module _ (c : Cursor) (s : Bytes) (ta tb : List ℤ) (a : List ℕ) (ta' tb' : List ℤ) (p : NextPromise c s ta tb (next_told a) ta' tb') where
  abbrev Good : Type 0
  Good = Roomy ta tb × (Within c s → (x : Raw) × Begins sdfile (drop c.at s) x)

  told_record : next_told a ≡ found_told a → (w : Verdict Reply) → numbers_of (next_told a) ≡ from_here c w → Reads sdfile (drop c.at s) ta tb w ta' tb' →
      (x : Raw) × Begins sdfile (drop c.at s) x
  told_record h (Verdict.accepted w) q r = let g = (r.accepts w).0 refl in (g.0, g.1)
  told_record h (Verdict.refused e i k) q r = found_kept a (number a 12) e (c.lines + i) k (sym (ap numbers_of h) ∙ q)

  told : next_told a ≡ found_told a → Good
  told h =
      by_room_lem ta tb (λ y. (y, λ w. let x = p.reads y w in told_record h x.0 x.1 x.2))
      (λ n. found_kept a (number a 12) 2 0 0 (sym (ap numbers_of h) ∙ (p.no_room n).0))

  kept_record : (n : ℕ) → next_told a ≡ Next.Refused n (number a 1) (number a 2) → (w : Verdict Reply) → numbers_of (next_told a) ≡ from_here c w →
      Reads sdfile (drop c.at s) ta tb w ta' tb' → (x : Raw) × Begins sdfile (drop c.at s) x → ⊥
  kept_record n f (Verdict.accepted w) q r b = apart_found (sym (ap numbers_of f) ∙ q)
  kept_record n f (Verdict.refused e i k) q r b =
      let t = drop c.at s in
      let w = reply_of sdfile t b.0 in
      accepted_refused (sym ((r.accepts w).1 (b.0, b.1, begins_told sdfile t b.0 b.1)))

  kept : Good → (n : ℕ) → next_told a ≡ Next.Refused n (number a 1) (number a 2) → ⊥
  kept g n f =
      by_within c s (λ w. let x = p.reads g.0 w in kept_record n f x.0 x.1 x.2 (g.1 w))
      (λ o. apart_end (sym (ap numbers_of f) ∙ (p.at_end_lem g.0 o).0))

  pub next_good : (number a 0 ≡ 0) ↔ Good
  unfolding next_told
  next_good = zero_exactly (number a 0) (found_told a) (λ (e : ℕ). Next.Refused e (number a 1) (number a 2)) told kept
