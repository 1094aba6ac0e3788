-- Two good files gone through side by side, and the records that one of them has alone: laws for the code.
use Prim.Native.Nat.{ℕ, zero, suc, ◌+◌, ◌-◌, ◌*◌, ◌≤◌, ◌<◌, ◌^◌}
use native.Mathlib.Omega.{arith}
use Rattle.std.proofs.Common.{add-one, ◌∙◌, subst, length-append, ltb-true, ltb-false, Fits}
use Rattle.std.specs.Prelude.{◌≡◌, refl, Bool, true, false, ltb, length, take, drop, ℤ}
use Rattle.std.proofs.Math.Path.{sym, ap, ap₂}
use mathlib.Core.List.{List, [], ◌∷◌, ◌++◌, map, append-nil, append_assoc}
use Rattle.std.proofs.Math.IntN.{pos}
use Rattle.std.specs.Int.{w64}
use Rattle.text.specs.Text.{Bytes}
use Rattle.text.specs.Laws.{tail_is}
use Rattle.rules.specs.Record.{Raw, limit}
use Rattle.rules.specs.Meaning.{Reading, meaning}
use Rattle.judge_file.specs.Place.{sdfile}
use Rattle.judge_file.specs.Verdict.{Verdict, verdict}
use Rattle.judge_file.specs.WalkText.{after_lines}
use Rattle.reader_walk.specs.Outcome.{whole, outcome_of}
use Rattle.reader_cursor.specs.declared.Cursor.{Cursor}
use Rattle.reader_cursor.specs.Walk.{fresh, past, Countable, Walk, over, short, stopped, records_of, verdict_by, file_walk}
use Rattle.reader_cursor.specs.After.{After, after_start, after_good, after_next, after_fits, good_more, good_whole, walk_after, verdict_walk}
use Rattle.compare_rules.specs.declared.Count.{Count}
use Rattle.compare_rules.specs.Along.{along}
use Rattle.compare_rules.specs.Differences.{Difference, place, left_only, right_only, records_apart, recordwise, differences_of}
use Rattle.compare_rules.specs.Files.{files_apart}
use Rattle.compare_rules.specs.Log.{Log, log, noted, Small}
use Rattle.compare_rules.specs.Noted.{noted_joined, noted_length}
use Rattle.compare_tables.specs.Smaller.{Smaller}
use Rattle.compare_files.specs.declared.Pair.{Pair}
use Rattle.compare_files.specs.Compare.{Work, work}
use Rattle.compare_files.specs.Promise.{Rooms}
use Rattle.compare_files.specs.Pair.{Paired, Ready, Kept, kept_same, kept_join, kept_rooms}

-- ---- A cursor in a good file

-- it stands before these of the file's records
pub record Before (s : Bytes) (zs : List Raw) (c : Cursor) (rest : List Raw) : Type 0 where
  pub is : verdict sdfile limit s ≡ Verdict.accepted zs
  pub xs : List Raw
  pub after : After s xs c
  pub parts : zs ≡ xs ++ rest

cancel : {A : Type 0} (xs : List A) {ys zs : List A} → xs ++ ys ≡ xs ++ zs → ys ≡ zs
cancel [] h = h
cancel (x ∷ xs) h = cancel xs (ap tail h)
  where
    tail : {A : Type 0} → List A → List A
    tail [] = []
    tail (y ∷ ys) = ys

before_start : (s : Bytes) (zs : List Raw) → verdict sdfile limit s ≡ Verdict.accepted zs → Before s zs fresh zs
before_start s zs e = record { is = e; xs = []; after = after_start s; parts = refl }

module _ (s : Bytes) (zs : List Raw) (c : Cursor) (rest : List Raw) (g : Before s zs c rest) where
  before_count : c.records + length rest ≡ length zs
  before_count = omega (arith, g.after.count, ap length g.parts, length-append g.xs rest)

  -- its numbers are no greater than the file is long
  before_small : c.records ≤ c.at
  before_small = omega (arith, g.after.lines, g.after.records)

  -- the next record, and those behind it
  record Ahead : Type 0 where
    some : c.at < length s
    x : Raw
    k : ℕ
    is : outcome_of sdfile (drop c.at s) ≡ whole x k
    more : List Raw
    rest_is : rest ≡ x ∷ more
    before : Before s zs (past c (after_lines (drop c.at s) 0 k) k) more

  ahead : c.records < length zs → Ahead
  ahead h = go (ltb c.at (length s)) refl
    where
      by : c.at < length s → Ahead
      by some =
          let w = good_whole s g.xs c g.after zs g.is some in
          let n = after_next s g.xs c g.after some w.0 w.1 w.2 in
          let m = good_more s (g.xs ++ (w.0 ∷ [])) _ n zs g.is in
          record {
            some = some;
            x = w.0;
            k = w.1;
            is = w.2;
            more = m.0;
            rest_is = cancel g.xs (sym g.parts ∙ m.1 ∙ append_assoc g.xs (w.0 ∷ []) m.0);
            before = record { is = g.is; xs = g.xs ++ (w.0 ∷ []); after = n; parts = m.1 };
          }

      same_list : {u v : List Raw} → Verdict.accepted u ≡ Verdict.accepted v → u ≡ v
      same_list e = cc

      go : (t : Bool) → ltb c.at (length s) ≡ t → Ahead
      go true e = by (ltb-true c.at (length s) e)
      go false e =
          let z = after_good s g.xs c g.after (ltb-false c.at (length s) e) in
          absurd (omega (arith, g.after.count, ap length (same_list (sym g.is ∙ z))))

-- a file has no more records than bytes
few_records : (s : Bytes) (zs : List Raw) → verdict sdfile limit s ≡ Verdict.accepted zs → length zs ≤ length s
few_records s zs e =
    let w = walk_after s in
    omega (arith, w.count, w.records, w.lines, w.inside, ap length (go (file_walk s) (sym (verdict_walk s) ∙ e)))
  where
    go : (w : Walk) → verdict_by w ≡ Verdict.accepted zs → records_of w ≡ zs
    go (over ys d) q = cc
    go (short ys d i) q = absurd (let z : ◌≡◌ {A = ℕ} 0 1 = cc in omega arith)
    go (stopped ys d n i column) q = absurd (let z : ◌≡◌ {A = ℕ} 0 1 = cc in omega arith)

-- ---- Records on one side only

-- so many after record k
unfoldable pub alone_records : ℕ → ℕ → ℕ → List Difference
alone_records side k zero = []
alone_records side k (suc j) = record { at = place (k + 1) 10 0 0; side = side; left = pos 0; right = pos 0 } ∷ alone_records side (k + 1) j

alone_left : (k : ℕ) (xs : List Reading) → along recordwise (k + 1) xs [] ≡ alone_records left_only k (length xs)
unfolding along alone_records
alone_left k [] = refl
alone_left k (x ∷ xs) = ap₂ (λ (d : Difference) (ds : List Difference). d ∷ ds) refl (ap (λ (j : ℕ). along recordwise j xs []) (sym (add-one (k + 1))) ∙ alone_left (k + 1) xs)

alone_right : (k : ℕ) (ys : List Reading) → along recordwise (k + 1) [] ys ≡ alone_records right_only k (length ys)
unfolding along alone_records
alone_right k [] = refl
alone_right k (y ∷ ys) = ap₂ (λ (d : Difference) (ds : List Difference). d ∷ ds) refl (ap (λ (j : ℕ). along recordwise j [] ys) (sym (add-one (k + 1))) ∙ alone_right (k + 1) ys)

many : {A B : Type 0} (f : A → B) (xs : List A) → length (map f xs) ≡ length xs
many f [] = refl
many f (x ∷ xs) = ap suc (many f xs)

-- one of two files has no more: the two sides one after the other
rest_apart : {n m k : ℕ} (us vs : List Raw) → Smaller n m k → k + length us ≡ n → k + length vs ≡ m →
    along recordwise (k + 1) (map meaning us) (map meaning vs) ≡ alone_records left_only k (n - k) ++ alone_records right_only k (m - k)
unfolding alone_records
rest_apart {n} {m} [] vs (Smaller.first h) e f =
    let z : n - n ≡ 0 = omega arith in
    let j : m - n ≡ length vs = omega arith in
    alone_right n (map meaning vs) ∙ rw (z, j, many meaning vs)
rest_apart {n} {m} (u ∷ us) vs (Smaller.first h) e f = absurd (omega arith)
rest_apart {n} {m} us [] (Smaller.second h) e f =
    let z : m - m ≡ 0 = omega arith in
    let j : n - m ≡ length us = omega arith in
    alone_left m (map meaning us) ∙ rw (z, j, many meaning us) (sym (append-nil (alone_records left_only m (length us))))
rest_apart {n} {m} us (v ∷ vs) (Smaller.second h) e f = absurd (omega arith)

-- from g₀ to g, up to record k
pub record Resting (side from to : ℕ) (g₀ g : Log) (k : ℕ) : Type 0 where
  pub low : k ≤ to
  pub same : noted g₀ (alone_records side from (to - from)) ≡ noted g (alone_records side k (to - k))

module _ (side from to : ℕ) (g₀ : Log) where
  pub resting_start : from ≤ to → Resting side from to g₀ g₀ from
  resting_start h = record { low = h; same = refl }

  module _ (l : List ℤ) (c : Count) (k : ℕ) (w : Resting side from to g₀ (log l c) k) where
    pub resting_long : length l ≡ length g₀.list
    resting_long =
        sym (noted_length (log l c) (alone_records side k (to - k)))
        ∙ ap (λ (f : Log). length f.list) (sym w.same)
        ∙ noted_length g₀ (alone_records side from (to - from))

    pub resting_small : k < to → to < 2 ^ 63 → Small (place (k + 1) 10 0 0)
    resting_small h f = record { position = omega arith; part = omega arith; index = omega arith; field = omega arith }

    pub resting_next : (l' : List ℤ) (c' : Count) → k < to →
        log l' c' ≡ noted (log l c) (record { at = place (k + 1) 10 0 0; side = side; left = pos 0; right = pos 0 } ∷ []) → Resting side from to g₀ (log l' c') (k + 1)
    unfolding alone_records
    resting_next l' c' h e =
        let n : to - k ≡ suc (to - (k + 1)) = omega arith in
        record {
          low = omega arith;
          same =
              w.same
              ∙ ap (λ (j : ℕ). noted (log l c) (alone_records side k j)) n
              ∙ noted_joined (log l c) (record { at = place (k + 1) 10 0 0; side = side; left = pos 0; right = pos 0 } ∷ []) (alone_records side (k + 1) (to - (k + 1)))
              ∙ ap (λ (f : Log). noted f (alone_records side (k + 1) (to - (k + 1)))) (sym e);
        }

    pub resting_end : to ≤ k → log l c ≡ noted g₀ (alone_records side from (to - from))
    unfolding alone_records noted
    resting_end h =
        let n : to - k ≡ 0 = omega arith in
        sym (w.same ∙ ap (λ (j : ℕ). noted (log l c) (alone_records side k j)) n)

pub ruleset resting_laws = (resting_start, resting_long, resting_small, resting_next, resting_end)

-- ---- Both files

-- both are good, of n and m records, and the work tables have room
pub record GoodFiles (a : Bytes) (n : ℕ) (b : Bytes) (m : ℕ) (w : Work) : Type 0 where
  pub xs : List Raw
  pub ys : List Raw
  pub left : verdict sdfile limit a ≡ Verdict.accepted xs
  pub right : verdict sdfile limit b ≡ Verdict.accepted ys
  pub n_is : n ≡ length xs
  pub m_is : m ≡ length ys
  pub rooms : Rooms w

-- what differs between them is noted
pub record Apart (a b : Bytes) (g₀ g : Log) : Type 0 where
  pub same : (xs ys : List Raw) → verdict sdfile limit a ≡ Verdict.accepted xs → verdict sdfile limit b ≡ Verdict.accepted ys → g ≡ noted g₀ (files_apart xs ys)

-- between two pairs of records: the cursors stand after as many of either file
pub record Walking (a : Bytes) (n : ℕ) (b : Bytes) (m k : ℕ) (w₀ : Work) (g₀ : Log) (w : Work) (g : Log) (c d : Cursor) : Type 0 where
  pub files : GoodFiles a n b m w₀
  pub few : Smaller n m k
  pub bytes : (length a * 1 < 2 ^ 63) × (length b * 1 < 2 ^ 63)
  pub kept : Kept w₀ w
  pub us : List Raw
  pub vs : List Raw
  pub left : Before a files.xs c us
  pub right : Before b files.ys d vs
  pub low : c.records ≤ k
  pub level : c.records ≡ d.records
  pub same : noted g₀ (files_apart files.xs files.ys) ≡ noted g (along recordwise (c.records + 1) (map meaning us) (map meaning vs))

pub walking_start : (a : Bytes) (n : ℕ) (b : Bytes) (m k : ℕ) (ta tb ua ub : List ℤ) (g : Log) (c d : Cursor) → GoodFiles a n b m (work ta tb ua ub) → Smaller n m k →
    length a * 1 < 2 ^ 63 → length b * 1 < 2 ^ 63 → c ≡ fresh → d ≡ fresh → Walking a n b m k (work ta tb ua ub) g (work ta tb ua ub) g c d
unfolding differences_of
walking_start a n b m k ta tb ua ub g c d f s ha hb ec ed =
    record {
      files = f;
      few = s;
      bytes = (ha, hb);
      kept = kept_same (work ta tb ua ub) f.rooms;
      us = f.xs;
      vs = f.ys;
      left = subst (λ (z : Cursor). Before a f.xs z f.xs) (sym ec) (before_start a f.xs f.left);
      right = subst (λ (z : Cursor). Before b f.ys z f.ys) (sym ed) (before_start b f.ys f.right);
      low = omega (arith, ap (λ (z : Cursor). z.records) ec);
      level = ap (λ (z : Cursor). z.records) (ec ∙ sym ed);
      same = ap (λ (z : Cursor). noted g (along recordwise (z.records + 1) (map meaning f.xs) (map meaning f.ys))) (sym ec);
    }

few_both : {n m k : ℕ} → Smaller n m k → (k ≤ n) × (k ≤ m)
few_both (Smaller.first h) = (omega arith, omega arith)
few_both (Smaller.second h) = (h, omega arith)

module _ (a : Bytes) (n : ℕ) (b : Bytes) (m k : ℕ) (w₀ : Work) (g₀ : Log) (ta tb ua ub l : List ℤ) (e : Count) (c d : Cursor)
    (g : Walking a n b m k w₀ g₀ (work ta tb ua ub) (log l e) c d) where
  pub walking_long : length l ≡ length g₀.list
  walking_long =
      sym (noted_length (log l e) (along recordwise (c.records + 1) (map meaning g.us) (map meaning g.vs)))
      ∙ ap (λ (f : Log). length f.list) (sym g.same)
      ∙ noted_length g₀ (files_apart g.files.xs g.files.ys)

  pub walking_kept : Kept w₀ (work ta tb ua ub)
  walking_kept = g.kept

  module _ (more : c.records < k) where
    old_ahead : Ahead a g.files.xs c g.us g.left
    old_ahead = ahead a g.files.xs c g.us g.left (omega (arith, (few_both g.few).0, g.files.n_is))

    new_ahead : Ahead b g.files.ys d g.vs g.right
    new_ahead = ahead b g.files.ys d g.vs g.right (omega (arith, (few_both g.few).1, g.files.m_is, g.level))

    pub walking_old_at : c.at ≤ length a
    walking_old_at = g.left.after.inside

    pub walking_new_at : d.at ≤ length b
    walking_new_at = g.right.after.inside

    small : c.records + 1 < 2 ^ 63
    small = omega (arith, before_small a g.files.xs c g.us g.left, old_ahead.some, g.bytes.0)

    pub walking_fits : Fits w64 (c.records + 1)
    walking_fits = record { fits = omega (arith, small) }

    old_lent : outcome_of sdfile (take (length a - c.at) (drop c.at a)) ≡ whole old_ahead.x old_ahead.k
    old_lent = ap (outcome_of sdfile) (tail_is a c.at) ∙ old_ahead.is

    new_lent : outcome_of sdfile (take (length b - d.at) (drop d.at b)) ≡ whole new_ahead.x new_ahead.k
    new_lent = ap (outcome_of sdfile) (tail_is b d.at) ∙ new_ahead.is

    pub walking_ready : Ready (c.records + 1) (take (length a - c.at) (drop c.at a)) (take (length b - d.at) (drop d.at b)) (work ta tb ua ub)
    walking_ready =
        record {
          small = small;
          rooms = kept_rooms g.kept;
          x = old_ahead.x;
          k = old_ahead.k;
          left = old_lent;
          y = new_ahead.x;
          j = new_ahead.k;
          right = new_lent;
        }

    module _ (l' : List ℤ) (r : Pair)
        (p : Paired (c.records + 1) (take (length a - c.at) (drop c.at a)) (take (length b - d.at) (drop d.at b)) (log l e) l' r) where
      old_bytes : r.left.bytes ≡ after_lines (drop c.at a) 0 old_ahead.k
      old_bytes = (p.left old_ahead.x old_ahead.k old_lent).0 ∙ ap (λ (t : Bytes). after_lines t 0 old_ahead.k) (tail_is a c.at)

      old_lines : r.left.lines ≡ old_ahead.k
      old_lines = (p.left old_ahead.x old_ahead.k old_lent).1

      new_bytes : r.right.bytes ≡ after_lines (drop d.at b) 0 new_ahead.k
      new_bytes = (p.right new_ahead.x new_ahead.k new_lent).0 ∙ ap (λ (t : Bytes). after_lines t 0 new_ahead.k) (tail_is b d.at)

      new_lines : r.right.lines ≡ new_ahead.k
      new_lines = (p.right new_ahead.x new_ahead.k new_lent).1

      pub walking_old_past : Countable c r.left.bytes r.left.lines
      walking_old_past =
          let o = old_ahead in
          subst (λ (j : ℕ). Countable c j r.left.lines) (sym old_bytes)
          (subst (Countable c (after_lines (drop c.at a) 0 o.k)) (sym old_lines) (after_fits a g.left.xs c g.left.after o.some o.x o.k o.is g.bytes.0))

      pub walking_new_past : Countable d r.right.bytes r.right.lines
      walking_new_past =
          let o = new_ahead in
          subst (λ (j : ℕ). Countable d j r.right.lines) (sym new_bytes)
          (subst (Countable d (after_lines (drop d.at b) 0 o.k)) (sym new_lines) (after_fits b g.right.xs d g.right.after o.some o.x o.k o.is g.bytes.1))

      module _ (c' d' : Cursor) (ec : c' ≡ past c r.left.bytes r.left.lines) (ed : d' ≡ past d r.right.bytes r.right.lines) where
        pub walking_less : k - c'.records < k - c.records
        walking_less = omega (arith, ap (λ (z : Cursor). z.records) ec)

        old_moved : c' ≡ past c (after_lines (drop c.at a) 0 old_ahead.k) old_ahead.k
        old_moved = ec ∙ ap₂ (past c) old_bytes old_lines

        new_moved : d' ≡ past d (after_lines (drop d.at b) 0 new_ahead.k) new_ahead.k
        new_moved = ed ∙ ap₂ (past d) new_bytes new_lines

        step : noted (log l e) (along recordwise (c.records + 1) (map meaning g.us) (map meaning g.vs))
            ≡ noted (log l' r.count) (along recordwise (c'.records + 1) (map meaning old_ahead.more) (map meaning new_ahead.more))
        unfolding along
        step =
            let o = old_ahead in
            let q = new_ahead in
            let i : suc (c.records + 1) ≡ c'.records + 1 = omega (arith, ap (λ (z : Cursor). z.records) ec) in
            ap₂ (λ (u v : List Raw). noted (log l e) (along recordwise (c.records + 1) (map meaning u) (map meaning v))) o.rest_is q.rest_is
            ∙ noted_joined (log l e) (records_apart (c.records + 1) (meaning o.x) (meaning q.x)) (along recordwise (suc (c.records + 1)) (map meaning o.more) (map meaning q.more))
            ∙ ap₂ (λ (f : Log) (j : ℕ). noted f (along recordwise j (map meaning o.more) (map meaning q.more))) (sym (p.same o.x q.x o.k q.k old_lent new_lent)) i

        pub walking_next : (ta' tb' ua' ub' : List ℤ) → Kept (work ta tb ua ub) (work ta' tb' ua' ub') → Walking a n b m k w₀ g₀ (work ta' tb' ua' ub') (log l' r.count) c' d'
        walking_next ta' tb' ua' ub' kept =
            record {
              files = g.files;
              few = g.few;
              bytes = g.bytes;
              kept = kept_join g.kept kept;
              us = old_ahead.more;
              vs = new_ahead.more;
              left = subst (λ (z : Cursor). Before a g.files.xs z old_ahead.more) (sym old_moved) old_ahead.before;
              right = subst (λ (z : Cursor). Before b g.files.ys z new_ahead.more) (sym new_moved) new_ahead.before;
              low = omega (arith, ap (λ (z : Cursor). z.records) ec);
              level = ap (λ (z : Cursor). z.records) ec ∙ ap (λ (j : ℕ). j + 1) g.level ∙ sym (ap (λ (z : Cursor). z.records) ed);
              same = g.same ∙ step;
            }

  -- ---- One file, or both, have no more

  module _ (end : k ≤ c.records) where
    pub walking_rest_old : (k ≤ n) × (n < 2 ^ 63)
    walking_rest_old = ((few_both g.few).0, omega (arith, g.files.n_is, few_records a g.files.xs g.files.left, g.bytes.0))

    pub walking_rest_new : (k ≤ m) × (m < 2 ^ 63)
    walking_rest_new = ((few_both g.few).1, omega (arith, g.files.m_is, few_records b g.files.ys g.files.right, g.bytes.1))

    pub walking_end : (g₁ g₂ : Log) → g₁ ≡ noted (log l e) (alone_records 1 k (n - k)) → g₂ ≡ noted g₁ (alone_records 2 k (m - k)) → Apart a b g₀ g₂
    walking_end g₁ g₂ p q = record { same = λ xs ys ex ey. all ∙ ap₂ (λ (u v : List Raw). noted g₀ (files_apart u v)) (one_list g.files.left ex) (one_list g.files.right ey) }
      where
        one_list : {v : Verdict (List Raw)} {xs ys : List Raw} → v ≡ Verdict.accepted xs → v ≡ Verdict.accepted ys → xs ≡ ys
        one_list {v} {xs} {ys} i j = let z : Verdict.accepted xs ≡ Verdict.accepted ys = sym i ∙ j in cc

        here : c.records ≡ k
        here = omega (arith, g.low)

        left_many : k + length g.us ≡ n
        left_many = omega (arith, here, before_count a g.files.xs c g.us g.left, g.files.n_is)

        right_many : k + length g.vs ≡ m
        right_many = omega (arith, here, g.level, before_count b g.files.ys d g.vs g.right, g.files.m_is)

        all : g₂ ≡ noted g₀ (files_apart g.files.xs g.files.ys)
        all =
            q ∙ ap (λ (f : Log). noted f (alone_records 2 k (m - k))) p
            ∙ sym (noted_joined (log l e) (alone_records 1 k (n - k)) (alone_records 2 k (m - k)))
            ∙ ap (noted (log l e)) (sym (rest_apart g.us g.vs g.few left_many right_many))
            ∙ ap (λ (j : ℕ). noted (log l e) (along recordwise (j + 1) (map meaning g.us) (map meaning g.vs))) (sym here)
            ∙ sym g.same

pub ruleset walking_laws = (
  walking_start,
  walking_long,
  walking_kept,
  walking_old_at,
  walking_new_at,
  walking_fits,
  walking_ready,
  walking_old_past,
  walking_new_past,
  walking_less,
  walking_next,
  walking_rest_old,
  walking_rest_new,
  walking_end,
)
