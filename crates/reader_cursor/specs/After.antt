-- The law of the walk: what holds where the cursor stands after some records of a text, and how it moves on. It is the walk of the judge.
use Rattle.std.specs.Prelude.{ℕ, zero, suc, ◌+◌, ◌-◌, ◌*◌, ◌≤◌, ◌<◌, ◌^◌, List, [], ◌∷◌, ◌++◌, Bool, true, false, ltb, length, drop}
use Rattle.std.proofs.Common.{arith, ◌∙◌, append-nil, append_assoc, length-drop, length-append, drop_of_length-le, drop-drop, ne_eqb, ltb-true, ltb-false}
use Rattle.std.proofs.Math.Path.{◌≡◌, refl, sym, ap, ap₂, subst}
use Rattle.text.specs.Text.{Bytes, Line}
use Rattle.text.specs.Cut.{cut, cut_is, few_lines}
use Rattle.rules.specs.Record.{Raw, Parts1to5, Record, limit}
use Rattle.judge_file.specs.Place.{sdfile}
use Rattle.judge_file.specs.Verdict.{Verdict, verdict}
use Rattle.judge_file.specs.One.{One, one_record}
use Rattle.judge_file.proofs.OneAgree.{one_whole, one_refused, one_short}
use Rattle.judge_file.specs.Front.{record_front}
use Rattle.judge_file.specs.WalkText.{after_lines, file_text, text_end}
use Rattle.judge_file.proofs.WalkText.{verdict_text, text_room, text_whole, text_refused, text_short}
use Rattle.reader_walk.specs.Outcome.{Outcome, whole, refused, of_one, outcome_of}
use Rattle.reader_cursor.specs.declared.Cursor.{Cursor}
use Rattle.reader_cursor.specs.Walk.{fresh, past, Countable, Walk, over, short, stopped, walk_from, file_walk, records_of, cursor_of, ended_by, verdict_by, stop_at}

-- ---- The record at the front of a text

some_line : {ls rest : List Line} {x : Raw} → Record limit ls x rest → 0 < length ls
some_line (Record.record_of (Parts1to5.parts f g h l a b w q o) i) = omega arith

record_shorter : {ls rest : List Line} {x : Raw} → Record limit ls x rest → length rest < length ls
record_shorter {rest = rest} r =
    let f = record_front r in
    omega (arith, ap length f.parts, length-append f.before rest, some_line (f.any []), length-append f.before [])

module _ (t : Bytes) where
  -- a whole record has a line or more, no more lines than bytes, and lies within the text
  pub whole_size : (x : Raw) (k : ℕ) (rest : List Line) → one_record limit (cut t).lines ≡ One.whole x k rest →
      (1 ≤ k) × (k ≤ after_lines t 0 k) × (after_lines t 0 k ≤ length t)
  whole_size x k rest h =
      let f = (one_whole limit (cut t).lines x k rest).0 h in
      let r = text_room limit [] 1 t x k rest h in
      (omega (arith, f.1, record_shorter f.0), r.0, r.1)

  pub refused_size : (e k column : ℕ) → one_record limit (cut t).lines ≡ One.refused e k column → (1 ≤ k) × (k ≤ length t)
  refused_size e k column h =
      let f = (one_refused limit (omega arith) (cut t).lines e k column h).2 in
      let many : length (cut t).lines ≡ length f.before + suc (length f.after) = ap length f.whole ∙ length-append f.before (f.l ∷ f.after) in
      (omega (arith, f.line), omega (arith, f.line, few_lines (cut_is t)))

  pub short_size : (k : ℕ) → one_record limit (cut t).lines ≡ One.short k → (1 ≤ k) × (k ≤ length t + 1)
  short_size k h =
      let f = (one_short limit (omega arith) (cut t).lines k h).0 in
      (omega arith, omega (arith, few_lines (cut_is t)))

-- the record at the front, as its outcome tells of it
abbrev pub Whole : Bytes → Raw → ℕ → Type 0
Whole t x k = (rest : List Line) × (one_record limit (cut t).lines ≡ One.whole x k rest)

pub data Not (t : Bytes) : ℕ → ℕ → ℕ → Type 0 where
  dead : {e k column : ℕ} → one_record limit (cut t).lines ≡ One.refused e k column → Not t e k column
  cut_short : {k : ℕ} → one_record limit (cut t).lines ≡ One.short k → Not t 19 k 1

module _ (t : Bytes) where
  pub outcome_one : (x : Raw) (k : ℕ) → outcome_of sdfile t ≡ whole x k → Whole t x k
  unfolding outcome_of
  outcome_one x k h = go (one_record limit (cut t).lines) refl h
    where
      go : (o : One) → one_record limit (cut t).lines ≡ o → of_one o ≡ whole x k → Whole t x k
      go (One.whole y j rest) e q =
          let xy : y ≡ x = cc in
          let jk : j ≡ k = cc in
          (rest, e ∙ ap₂ (λ (z : Raw) (i : ℕ). One.whole z i rest) xy jk)
      go (One.refused n j c) e q = absurd (let z : ◌≡◌ {A = ℕ} 0 1 = cc in omega arith)
      go (One.short j) e q = absurd (let z : ◌≡◌ {A = ℕ} 0 1 = cc in omega arith)

  pub outcome_not : (e k column : ℕ) → outcome_of sdfile t ≡ refused e k column → Not t e k column
  unfolding outcome_of
  outcome_not e k column h = go (one_record limit (cut t).lines) refl h
    where
      as_told : {n j d : ℕ} → Not t n j d → refused n j d ≡ refused e k column → Not t e k column
      as_told {n} {j} {d} f q =
          let ne : n ≡ e = cc in
          let jk : j ≡ k = cc in
          let dc : d ≡ column = cc in
          subst (λ (z : ℕ). Not t e k z) dc (subst (λ (z : ℕ). Not t e z d) jk (subst (λ (z : ℕ). Not t z j d) ne f))

      go : (o : One) → one_record limit (cut t).lines ≡ o → of_one o ≡ refused e k column → Not t e k column
      go (One.whole y j rest) o q = absurd (let z : ◌≡◌ {A = ℕ} 0 1 = cc in omega arith)
      go (One.refused n j d) o q = as_told (Not.dead o) q
      go (One.short j) o q = as_told (Not.cut_short o) q

-- its bytes and lines lie within the text, and so does the line of its refusal, or right after
module _ (t : Bytes) where
  pub outcome_size : (x : Raw) (k : ℕ) → outcome_of sdfile t ≡ whole x k → (1 ≤ k) × (k ≤ after_lines t 0 k) × (after_lines t 0 k ≤ length t)
  outcome_size x k h = let o = outcome_one t x k h in whole_size t x k o.0 o.1

  pub outcome_line : (e k column : ℕ) → outcome_of sdfile t ≡ refused e k column → k ≤ length t + 1
  outcome_line e k column h = go (outcome_not t e k column h)
    where
      go : {e k column : ℕ} → Not t e k column → k ≤ length t + 1
      go {e} {k} {column} (Not.dead o) = omega (arith, (refused_size t e k column o).1)
      go {e} {k} (Not.cut_short o) = (short_size t k o).1

-- ---- Steps of the walk

walk_skip : (xs : List Raw) (c : Cursor) (skip : ℕ) (t : Bytes) → walk_from xs c skip t ≡ walk_from xs c 0 (drop skip t)
unfolding walk_from
walk_skip xs c zero t = refl
walk_skip xs c (suc skip) [] = refl
walk_skip xs c (suc skip) (b ∷ t) = walk_skip xs c skip t

-- by the record at the front of what is left
abbrev step_by : List Raw → Cursor → Bytes → One → Walk
step_by xs c t (One.whole x k rest) = walk_from (xs ++ (x ∷ [])) (past c (after_lines t 0 k) k) 0 (drop (after_lines t 0 k) t)
step_by xs c t (One.refused e k column) = stopped xs c e (c.lines + k) column
step_by xs c t (One.short k) = short xs c (c.lines + k)

walk_step : (xs : List Raw) (c : Cursor) (t : Bytes) → 0 < length t → walk_from xs c 0 t ≡ step_by xs c t (one_record limit (cut t).lines)
unfolding walk_from
walk_step xs c [] some = absurd (omega arith)
walk_step xs c (b ∷ t) some = go (one_record limit (cut (b ∷ t)).lines) refl
  where
    go : (o : One) → one_record limit (cut (b ∷ t)).lines ≡ o → walk_from xs c 0 (b ∷ t) ≡ step_by xs c (b ∷ t) (one_record limit (cut (b ∷ t)).lines)
    go (One.whole x k rest) h =
        let n = after_lines (b ∷ t) 0 k in
        let w = whole_size (b ∷ t) x k rest h in
        let m : after_lines (b ∷ t) 0 k ≡ suc (after_lines (b ∷ t) 0 k - 1) = omega (arith, w.0, w.1) in
        let one : walk_from xs c 0 (b ∷ t) ≡ walk_from (xs ++ (x ∷ [])) (past c n k) (n - 1) t = rw (h, walk_from) in
        one ∙ walk_skip (xs ++ (x ∷ [])) (past c n k) (n - 1) t
        ∙ ap (λ (j : ℕ). walk_from (xs ++ (x ∷ [])) (past c n k) 0 (drop j (b ∷ t))) (sym m)
        ∙ sym (ap (step_by xs c (b ∷ t)) h)
    go (One.refused e k column) h = let one : walk_from xs c 0 (b ∷ t) ≡ stopped xs c e (c.lines + k) column = rw (h, walk_from) in one ∙ sym (ap (step_by xs c (b ∷ t)) h)
    go (One.short k) h = let one : walk_from xs c 0 (b ∷ t) ≡ short xs c (c.lines + k) = rw (h, walk_from) in one ∙ sym (ap (step_by xs c (b ∷ t)) h)

-- ---- The law

-- cursor c stands after the records xs of the text: what the walk from the start comes to, the walk from here comes to
pub record After (s : Bytes) (xs : List Raw) (c : Cursor) : Type 0 where
  pub inside : c.at ≤ length s
  pub lines : c.lines ≤ c.at
  pub records : c.records ≤ c.lines
  pub count : c.records ≡ length xs
  pub same : file_walk s ≡ walk_from xs c 0 (drop c.at s)

pub after_start : (s : Bytes) → After s [] fresh
unfolding file_walk
after_start s = record { inside = omega arith; lines = omega arith; records = omega arith; count = refl; same = refl }

-- how the walk ends at a cursor before a record that is refused
abbrev pub stop_by : List Raw → Cursor → {t : Bytes} {e k column : ℕ} → Not t e k column → Walk
stop_by xs c {t} {e} {k} {column} (Not.dead o) = stopped xs c e (c.lines + k) column
stop_by xs c {t} {e} {k} {column} (Not.cut_short o) = short xs c (c.lines + k)

module _ (s : Bytes) (xs : List Raw) (c : Cursor) (g : After s xs c) where
  -- nothing is left
  pub after_over : length s ≤ c.at → file_walk s ≡ over xs c
  unfolding walk_from
  after_over h = g.same ∙ ap (walk_from xs c 0) (drop_of_length-le s h)

  module _ (some : c.at < length s) where
    step : file_walk s ≡ step_by xs c (drop c.at s) (one_record limit (cut (drop c.at s)).lines)
    step = g.same ∙ walk_step xs c (drop c.at s) (omega (arith, length-drop c.at s))

    -- ---- A whole record: the cursor moves past it

    module _ (x : Raw) (k : ℕ) (h : outcome_of sdfile (drop c.at s) ≡ whole x k) where
      abbrev bytes : ℕ
      bytes = after_lines (drop c.at s) 0 k

      pub after_size : (1 ≤ k) × (k ≤ bytes) × (c.at + bytes ≤ length s)
      after_size = let w = outcome_size (drop c.at s) x k h in (w.0, w.1, omega (arith, w.2, length-drop c.at s))

      pub after_less : length s - (c.at + bytes) < length s - c.at
      after_less = let w = after_size in omega (arith, w.0, w.1, w.2)

      -- its numbers fit
      pub after_fits : length s * 1 < 2 ^ 63 → Countable c bytes k
      after_fits f =
          let w = after_size in
          record {
            at = omega (arith, w.2);
            lines = omega (arith, w.1, w.2, g.lines);
            records = omega (arith, w.2, g.lines, g.records);
          }

      pub after_next : After s (xs ++ (x ∷ [])) (past c bytes k)
      after_next =
          let w = after_size in
          record {
            inside = w.2;
            lines = omega (arith, w.1, g.lines);
            records = omega (arith, w.0, g.records);
            count = omega (arith, g.count, length-append xs (x ∷ []));
            same =
                step ∙ ap (step_by xs c (drop c.at s)) (outcome_one (drop c.at s) x k h).1
                ∙ ap (walk_from (xs ++ (x ∷ [])) (past c bytes k) 0) (drop-drop bytes c.at s);
          }

    -- ---- A refusal: its line counts from the text's start

    pub after_stop : {e k column : ℕ} (n : Not (drop c.at s) e k column) → file_walk s ≡ stop_by xs c n
    after_stop (Not.dead o) = step ∙ ap (step_by xs c (drop c.at s)) o
    after_stop (Not.cut_short o) = step ∙ ap (step_by xs c (drop c.at s)) o

    module _ (e k column : ℕ) (h : outcome_of sdfile (drop c.at s) ≡ refused e k column) where
      pub after_line : length s * 1 < 2 ^ 63 → c.lines + k < 2 ^ 64
      after_line f = omega (arith, outcome_line (drop c.at s) e k column h, length-drop c.at s, g.lines, g.inside)

      -- as the code says it: 19 is given nowhere else
      pub after_ended : stop_at c e k column ≡ ended_by (file_walk s)
      unfolding stop_at
      after_ended = let n = outcome_not (drop c.at s) e k column h in go n ∙ sym (ap ended_by (after_stop n))
        where
          go : {e k column : ℕ} (n : Not (drop c.at s) e k column) → stop_at c e k column ≡ ended_by (stop_by xs c n)
          go {e} {k} {column} (Not.dead o) =
              let m = (one_refused limit (omega arith) (cut (drop c.at s)).lines e k column o).0 in
              rw (ne_eqb e 19 (λ q. omega (arith, q, m.1)))
          go (Not.cut_short o) = refl

-- ---- By induction over the walk: what holds where it ends, and holds before a record if it holds after it, holds at every cursor

module _ (s : Bytes) (P : List Raw → Cursor → Type 0)
    (ends : (xs : List Raw) (c : Cursor) → After s xs c → length s ≤ c.at → P xs c)
    (stops : (xs : List Raw) (c : Cursor) → After s xs c → c.at < length s → (e k column : ℕ) → outcome_of sdfile (drop c.at s) ≡ refused e k column → P xs c)
    (goes : (xs : List Raw) (c : Cursor) → After s xs c → c.at < length s → (x : Raw) (k : ℕ) → outcome_of sdfile (drop c.at s) ≡ whole x k →
    P (xs ++ (x ∷ [])) (past c (after_lines (drop c.at s) 0 k) k) → P xs c) where
  abbrev Again : ℕ → Type 0
  Again fuel = (ys : List Raw) (d : Cursor) → After s ys d → length s - d.at ≤ fuel → P ys d

  one_more_lem : (fuel : ℕ) → Again fuel → (xs : List Raw) (c : Cursor) → After s xs c → length s - c.at ≤ suc fuel → c.at < length s → P xs c
  one_more_lem fuel again xs c g h some = go (outcome_of sdfile (drop c.at s)) refl
    where
      go : (o : Outcome) → outcome_of sdfile (drop c.at s) ≡ o → P xs c
      go (whole x k) e =
          let less = after_less s xs c g some x k e in
          goes xs c g some x k e
          (again (xs ++ (x ∷ [])) (past c (after_lines (drop c.at s) 0 k) k) (after_next s xs c g some x k e) (omega (arith, less, h)))
      go (refused e k column) q = stops xs c g some e k column q

  by_fuel : (fuel : ℕ) → Again fuel
  by_fuel zero xs c g h = ends xs c g (omega (arith, h))
  by_fuel (suc fuel) xs c g h = go (λ ys d u v. by_fuel fuel ys d u v) (ltb c.at (length s)) refl
    where
      go : Again fuel → (b : Bool) → ltb c.at (length s) ≡ b → P xs c
      go again true e = one_more_lem fuel again xs c g h (ltb-true c.at (length s) e)
      go again false e = ends xs c g (ltb-false c.at (length s) e)

  pub after_all : (xs : List Raw) (c : Cursor) → After s xs c → P xs c
  after_all xs c g = by_fuel (length s) xs c g (omega arith)

-- ---- Three uses of it

module _ (s : Bytes) where
  abbrev Ended : List Raw → Cursor → Type 0
  Ended xs c = After s (records_of (file_walk s)) (cursor_of (file_walk s))

  -- the cursor with which the walk ends stands after the records it has read
  pub walk_after : After s (records_of (file_walk s)) (cursor_of (file_walk s))
  walk_after = after_all s Ended (λ xs c g h. by xs c g (over xs c) (after_over s xs c g h) refl refl) stops (λ xs c g some x k e v. v) [] fresh (after_start s)
    where
      by : (xs : List Raw) (c : Cursor) → After s xs c → (w : Walk) → file_walk s ≡ w → records_of w ≡ xs → cursor_of w ≡ c → Ended xs c
      by xs c g w q a b =
          subst (λ (v : Walk). After s (records_of v) (cursor_of v)) (sym q) (subst (λ (ys : List Raw). After s ys (cursor_of w)) (sym a) (subst (After s xs) (sym b) g))

      stops : (xs : List Raw) (c : Cursor) → After s xs c → c.at < length s → (e k column : ℕ) → outcome_of sdfile (drop c.at s) ≡ refused e k column → Ended xs c
      stops xs c g some e k column h = go (outcome_not (drop c.at s) e k column h)
        where
          go : {e k column : ℕ} → Not (drop c.at s) e k column → Ended xs c
          go {e} {k} {column} (Not.dead o) = by xs c g (stopped xs c e (c.lines + k) column) (after_stop s xs c g some (Not.dead o)) refl refl
          go {e} {k} (Not.cut_short o) = by xs c g (short xs c (c.lines + k)) (after_stop s xs c g some (Not.cut_short o)) refl refl

  abbrev More : List Raw → Cursor → Type 0
  More xs c = (ys : List Raw) × (records_of (file_walk s) ≡ xs ++ ys)

  -- records that are read stay the first
  pub after_more : (xs : List Raw) (c : Cursor) → After s xs c → More xs c
  after_more =
      after_all s More (λ xs c g h. ([], ap records_of (after_over s xs c g h) ∙ sym (append-nil xs))) stops
      (λ xs c g some x k e v. (x ∷ v.0, v.1 ∙ append_assoc xs (x ∷ []) v.0))
    where
      stops : (xs : List Raw) (c : Cursor) → After s xs c → c.at < length s → (e k column : ℕ) → outcome_of sdfile (drop c.at s) ≡ refused e k column → More xs c
      stops xs c g some e k column h = go (outcome_not (drop c.at s) e k column h)
        where
          go : {e k column : ℕ} → Not (drop c.at s) e k column → More xs c
          go (Not.dead o) = ([], ap records_of (after_stop s xs c g some (Not.dead o)) ∙ sym (append-nil xs))
          go (Not.cut_short o) = ([], ap records_of (after_stop s xs c g some (Not.cut_short o)) ∙ sym (append-nil xs))

  abbrev Judged : List Raw → Cursor → Type 0
  Judged xs c = file_text limit xs (c.lines + 1) (drop c.at s) ≡ verdict_by (file_walk s)

  -- the walk is the judge's
  pub verdict_walk : verdict sdfile limit s ≡ verdict_by (file_walk s)
  verdict_walk = verdict_text limit s ∙ after_all s Judged ends stops goes [] fresh (after_start s)
    where
      ends : (xs : List Raw) (c : Cursor) → After s xs c → length s ≤ c.at → Judged xs c
      ends xs c g h = ap (file_text limit xs (c.lines + 1)) (drop_of_length-le s h) ∙ text_end limit xs (c.lines + 1) ∙ sym (ap verdict_by (after_over s xs c g h))

      stops : (xs : List Raw) (c : Cursor) → After s xs c → c.at < length s → (e k column : ℕ) → outcome_of sdfile (drop c.at s) ≡ refused e k column → Judged xs c
      stops xs c g some e k column h = go (outcome_not (drop c.at s) e k column h)
        where
          line : (k : ℕ) → c.lines + 1 + k - 1 ≡ c.lines + k
          line k = omega arith

          go : {e k column : ℕ} → Not (drop c.at s) e k column → Judged xs c
          go {e} {k} {column} (Not.dead o) =
              text_refused limit xs (c.lines + 1) (drop c.at s) e k column o
              ∙ ap (λ (j : ℕ). Verdict.refused e j column) (line k)
              ∙ sym (ap verdict_by (after_stop s xs c g some (Not.dead o)))
          go {e} {k} (Not.cut_short o) =
              text_short limit xs (c.lines + 1) (drop c.at s) k o (omega (arith, length-drop c.at s))
              ∙ ap (λ (j : ℕ). Verdict.refused 19 j 1) (line k)
              ∙ sym (ap verdict_by (after_stop s xs c g some (Not.cut_short o)))

      goes : (xs : List Raw) (c : Cursor) → After s xs c → c.at < length s → (x : Raw) (k : ℕ) → outcome_of sdfile (drop c.at s) ≡ whole x k →
          Judged (xs ++ (x ∷ [])) (past c (after_lines (drop c.at s) 0 k) k) → Judged xs c
      goes xs c g some x k h v =
          let o = outcome_one (drop c.at s) x k h in
          let i : c.lines + 1 + k ≡ c.lines + k + 1 = omega arith in
          text_whole limit xs (c.lines + 1) (drop c.at s) x k o.0 o.1
          ∙ ap₂ (file_text limit (xs ++ (x ∷ []))) i (drop-drop (after_lines (drop c.at s) 0 k) c.at s)
          ∙ v

-- ---- The verdict, from a cursor

module _ (s : Bytes) (xs : List Raw) (c : Cursor) (g : After s xs c) where
  pub after_verdict : c.at < length s → (e k column : ℕ) → outcome_of sdfile (drop c.at s) ≡ refused e k column → verdict sdfile limit s ≡ Verdict.refused e (c.lines + k) column
  after_verdict some e k column h = let n = outcome_not (drop c.at s) e k column h in verdict_walk s ∙ ap verdict_by (after_stop s xs c g some n) ∙ go n
    where
      go : {e k column : ℕ} (n : Not (drop c.at s) e k column) → verdict_by (stop_by xs c n) ≡ Verdict.refused e (c.lines + k) column
      go (Not.dead o) = refl
      go (Not.cut_short o) = refl

  pub after_good : length s ≤ c.at → verdict sdfile limit s ≡ Verdict.accepted xs
  after_good h = verdict_walk s ∙ ap verdict_by (after_over s xs c g h)

  module _ (zs : List Raw) (is : verdict sdfile limit s ≡ Verdict.accepted zs) where
    -- its records begin with those read
    pub good_more : (ys : List Raw) × (zs ≡ xs ++ ys)
    good_more = let m = after_more s xs c g in (m.0, sym (go (file_walk s) (sym (verdict_walk s) ∙ is)) ∙ m.1)
      where
        go : (w : Walk) → verdict_by w ≡ Verdict.accepted zs → records_of w ≡ zs
        go (over ys d) e = cc
        go (short ys d i) e = absurd (let z : ◌≡◌ {A = ℕ} 0 1 = cc in omega arith)
        go (stopped ys d n i column) e = absurd (let z : ◌≡◌ {A = ℕ} 0 1 = cc in omega arith)

    -- where bytes are left, the next is whole
    pub good_whole : c.at < length s → (x : Raw) × (k : ℕ) × (outcome_of sdfile (drop c.at s) ≡ whole x k)
    good_whole some = go (outcome_of sdfile (drop c.at s)) refl
      where
        go : (o : Outcome) → outcome_of sdfile (drop c.at s) ≡ o → (x : Raw) × (k : ℕ) × (outcome_of sdfile (drop c.at s) ≡ whole x k)
        go (whole x k) e = (x, k, e)
        go (refused e k column) h =
            let q : Verdict.accepted zs ≡ Verdict.refused e (c.lines + k) column = sym is ∙ after_verdict some e k column h in
            absurd (let z : ◌≡◌ {A = ℕ} 0 1 = cc in omega arith)
