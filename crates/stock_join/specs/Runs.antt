-- The steps over all records of all files make the join of the log and the catalogue.
use Rattle.std.specs.Prelude.{ℕ, zero, suc, ◌+◌, ◌≤◌, ◌<◌, ◌≡◌, refl, length, get_or, replicate}
use native.Mathlib.Omega.{arith}
use Rattle.std.proofs.Common.{sym, ap, ◌∙◌}
use Rattle.std.proofs.Math.Path.{ap₂, subst}
use mathlib.Core.List.{List, [], ◌∷◌, ◌++◌, map, append-nil, append_assoc}
use Rattle.std.proofs.Math.ListN.{length-append}
use Rattle.rules.specs.Record.{Raw, GoodSDfile}
use Rattle.store_log.specs.Log.{Bytes, Event}
use Rattle.store_log.specs.Store.{Store, Told}
use Rattle.store_log.specs.Read.{read_all, replay_log}
use Rattle.store_log.specs.Entries.{OneEach}
use Rattle.store_log.proofs.Entries.{one_each}
use Rattle.store_log.proofs.Limits.{sound}
use Rattle.store_lots.specs.Memory.{Words}
use Rattle.store_replay.specs.Runs.{Replays}
use Rattle.stock_rules.specs.Key.{Keyed, Terms, record_key}
use Rattle.stock_rules.specs.Join.{Entry, entries_in, entries_from, entries_of, picked, LotLine, Join, lot_lines, join_of}
use Rattle.stock_rules.specs.EachOnce.{any_record, under, records_in}
use Rattle.stock_rules.proofs.EachOnce.{records_under}
use Rattle.stock_key.specs.declared.KeyRead.{KeyRead}
use Rattle.stock_key.specs.Promise.{read_of}
use Rattle.stock_join.specs.declared.Join as J
use Rattle.stock_join.specs.Step.{fate_of, most, fresh, next_file, After, after, next_of}
use Rattle.stock_join.specs.Stands.{MarksFrom, Stood, entry_at, Short, Moves}
use Rattle.stock_join.specs.Promise.{TwelveIn, Held}
use Rattle.stock_join.specs.Counting.{up_one}
use Rattle.stock_join.specs.Agree.{fate_promised, promised}
use Rattle.stock_join.specs.Twelve.{AllTwelve, file_twelve}

-- ---- The steps

-- one record after the other, by the keys read
unfoldable pub taken : Words → ℕ → List KeyRead → J.Join → Words → After
taken keys lots [] j marks = after j marks
taken keys lots (r ∷ rs) j marks = let a = next_of j (fate_of r keys lots) marks in taken keys lots rs a.join a.marks

-- one file after the other
unfoldable pub taken_all : Words → ℕ → List (List KeyRead) → J.Join → Words → After
taken_all keys lots [] j marks = after j marks
taken_all keys lots (rs ∷ fs) j marks = let a = taken keys lots rs (next_file j) marks in taken_all keys lots fs a.join a.marks

-- the keys of a file's records, as they are read
abbrev pub reads_of : Terms → List Raw → List KeyRead
reads_of t xs = map (λ (x : Raw). read_of (record_key t x.items)) xs

-- ---- One file

module _ (t : Terms) (keys : Words) (lots : ℕ) (ls : Store) (h : Held keys lots ls) where
  step : (j : J.Join) (es : List Entry) (marks : Words) → Stood j ls es marks → Short j es → (k : Keyed) → TwelveIn k →
      Moves j ls es k (next_of j (fate_of (read_of k) keys lots) marks)
  step j es marks g s k w =
      (promised j (fate_of (read_of k) keys lots) marks (next_of j (fate_of (read_of k) keys lots) marks) refl).more ls es g s k
      ((fate_promised (read_of k) keys lots (fate_of (read_of k) keys lots) refl).fate ls h k w refl)

  -- the file stays, and all its records are taken
  record Past (file : ℕ) (es : List Entry) (a : After) : Type 0 where
    same : a.join.file ≡ file
    stood : Stood a.join ls es a.marks

  file_past : (j : J.Join) (es : List Entry) (marks : Words) (xs : List Raw) → AllTwelve t xs → Stood j ls es marks → length es + length xs < most → j.number + length xs < most →
      Past j.file (es ++ entries_in t j.file (j.number + 1) xs) (taken keys lots (reads_of t xs) j marks)
  unfolding taken entries_in AllTwelve
  file_past j es marks [] w g n m = record { same = refl; stood = subst (λ (ds : List Entry). Stood j ls ds marks) (sym (append-nil es)) g }
  file_past j es marks (x ∷ xs) w g n m =
      let k = record_key t x.items in
      let a = next_of j (fate_of (read_of k) keys lots) marks in
      let v = step j es marks g (record { records = omega arith; number = omega arith }) k w.0 in
      let l = length-append es (entry_at j k ∷ []) in
      let e = v.number in
      let p = file_past a.join (es ++ (entry_at j k ∷ [])) a.marks xs w.1 v.stood (omega (arith, l)) (omega (arith, e)) in
      let same : es ++ (entry_at j k ∷ []) ++ entries_in t a.join.file (a.join.number + 1) xs ≡ es ++ (entry_at j k ∷ entries_in t j.file (j.number + 1 + 1) xs) =
      append_assoc es (entry_at j k ∷ []) (entries_in t a.join.file (a.join.number + 1) xs) ∙
      ap₂ (λ (f i : ℕ). es ++ (entry_at j k ∷ entries_in t f (i + 1) xs)) v.file v.number in
      record { same = p.same ∙ v.file; stood = subst (λ (ds : List Entry). Stood (taken keys lots (reads_of t xs) a.join a.marks).join ls ds (taken keys lots (reads_of t xs) a.join a.marks).marks) same p.stood }

-- ---- All files

unfoldable pub AllFiles : Terms → List (List Raw) → Type 0
AllFiles t [] = Unit {0}
AllFiles t (xs ∷ fs) = AllTwelve t xs × AllFiles t fs

length_entries : (t : Terms) (file k : ℕ) (xs : List Raw) → length (entries_in t file k xs) ≡ length xs
unfolding entries_in
length_entries t file k [] = refl
length_entries t file k (x ∷ xs) = ap suc (length_entries t file (k + 1) xs)

next_stood : (j : J.Join) (ls : Store) (es : List Entry) (marks : Words) → Stood j ls es marks → Stood (next_file j) ls es marks
next_stood j ls es marks g =
    record { few = g.few; each = g.each; room = g.room; lots = g.lots; received = g.received; never = g.never; keyless = g.keyless }

files_stood : (t : Terms) (keys : Words) (lots : ℕ) (ls : Store) → Held keys lots ls → (j : J.Join) (es : List Entry) (marks : Words) (fs : List (List Raw)) → AllFiles t fs →
    Stood j ls es marks → length es + length (entries_from t (j.file + 1) fs) < most → j.file + length fs < most →
    Stood (taken_all keys lots (map (reads_of t) fs) j marks).join ls (es ++ entries_from t (j.file + 1) fs) (taken_all keys lots (map (reads_of t) fs) j marks).marks
unfolding taken_all entries_from AllFiles
files_stood t keys lots ls h j es marks [] w g n m = subst (λ (ds : List Entry). Stood j ls ds marks) (sym (append-nil es)) g
files_stood t keys lots ls h j es marks (xs ∷ fs) w g n m =
    let u = up_one j.file (omega arith) in
    let c = length-append (entries_in t (j.file + 1) 1 xs) (entries_from t (j.file + 1 + 1) fs) in
    let d = length_entries t (j.file + 1) 1 xs in
    let p = file_past t keys lots ls h (next_file j) es marks xs w.0 (next_stood j ls es marks g) (omega (arith, c, d)) (omega (arith, c, d)) in
    let a = taken keys lots (reads_of t xs) (next_file j) marks in
    let file : a.join.file ≡ j.file + 1 = p.same ∙ u in
    let ds = es ++ entries_in t (j.file + 1) 1 xs in
    let stood : Stood a.join ls ds a.marks = subst (λ (f : ℕ). Stood a.join ls (es ++ entries_in t f 1 xs) a.marks) u p.stood in
    let l = length-append es (entries_in t (j.file + 1) 1 xs) in
    let few : length ds + length (entries_from t (a.join.file + 1) fs) < most =
    subst (λ (f : ℕ). length ds + length (entries_from t (f + 1) fs) < most) (sym file) (omega (arith, c, l)) in
    let all = files_stood t keys lots ls h a.join ds a.marks fs w.1 stood few (omega (arith, file)) in
    let same : ds ++ entries_from t (a.join.file + 1) fs ≡ es ++ (entries_in t (j.file + 1) 1 xs ++ entries_from t (j.file + 1 + 1) fs) =
    ap (λ (f : ℕ). ds ++ entries_from t (f + 1) fs) file ∙ append_assoc es (entries_in t (j.file + 1) 1 xs) (entries_from t (j.file + 1 + 1) fs) in
    let b = taken_all keys lots (map (reads_of t) fs) a.join a.marks in
    subst (λ (qs : List Entry). Stood b.join ls qs b.marks) same all

-- ---- The join

-- a lot's three numbers in memory are those of its line
pub record LineAt (marks : Words) (i : ℕ) (l : LotLine) : Type 0 where
  pub count : get_or marks i 0 ≡ l.records
  pub file : get_or marks (512 + i) 0 ≡ l.first.file
  pub number : get_or marks (1024 + i) 0 ≡ l.first.number

unfoldable pub LinesFrom : Words → ℕ → List LotLine → Type 0
LinesFrom marks i [] = Unit {0}
LinesFrom marks i (l ∷ ls) = LineAt marks i l × LinesFrom marks (i + 1) ls

-- state and memory say what the join of this log and these records says
pub record Joined (log : Bytes) (es : List Entry) (a : After) : Type 0 where
  pub lots : LinesFrom a.marks 0 (join_of log es).lots
  pub received : a.join.received ≡ records_in (join_of log es).lots
  pub never : a.join.never ≡ length (join_of log es).never
  pub keyless : a.join.keyless ≡ length (join_of log es).keyless

marks_lines : (marks : Words) (i : ℕ) (vs : List Event) (ts : List Told) (ls : Store) (es : List Entry) → MarksFrom marks i ls es → LinesFrom marks i (lot_lines vs ts ls es)
unfolding MarksFrom LinesFrom lot_lines
marks_lines marks i vs ts [] es g = tt
marks_lines marks i vs ts (l ∷ ls) es g =
    (record { count = g.0.count; file = g.0.file; number = g.0.number }, marks_lines marks (i + 1) vs ts ls es g.1)

stood_joined : (log : Bytes) (es : List Entry) (a : After) → Stood a.join (replay_log log).store es a.marks → Joined log es a
unfolding join_of
stood_joined log es a g =
    let r = replay_log log in
    record {
      lots = marks_lines a.marks 0 (read_all log).events r.told r.store es g.lots;
      received = g.received ∙ sym (records_under (read_all log).events r.told r.store es);
      never = g.never;
      keyless = g.keyless;
    }

no_mark : (n i : ℕ) → ◌≡◌ {A = ℕ} (get_or (replicate n 0) i 0) 0
no_mark zero i = refl
no_mark (suc n) zero = refl
no_mark (suc n) (suc i) = no_mark n i

no_marks : (n i : ℕ) (ls : Store) → MarksFrom (replicate n 0) i ls []
unfolding MarksFrom picked
no_marks n i [] = tt
no_marks n i (l ∷ ls) = (record { count = no_mark n i; file = no_mark n (512 + i); number = no_mark n (1024 + i) }, no_marks n (i + 1) ls)

none_under : (ls : Store) → under any_record ls [] ≡ 0
unfolding under picked
none_under [] = refl
none_under (l ∷ ls) = let e = none_under ls in omega (arith, e)

fresh_stood : (ls : Store) → length ls ≤ 512 → OneEach ls → Stood fresh ls [] (replicate 1536 0)
unfolding picked
fresh_stood ls few each =
    record { few = few; each = each; room = refl; lots = no_marks 1536 0 ls; received = sym (none_under ls); never = refl; keyless = refl }

-- these texts are files with these records
unfoldable pub Catalogue : List Bytes → List (List Raw) → Type 0
Catalogue [] [] = Unit {0}
Catalogue [] (xs ∷ fs) = ⊥
Catalogue (s ∷ ss) [] = ⊥
Catalogue (s ∷ ss) (xs ∷ fs) = GoodSDfile s xs × Catalogue ss fs

catalogue_twelve : (t : Terms) → t.pad < 256 → (ss : List Bytes) (fs : List (List Raw)) → Catalogue ss fs → AllFiles t fs
unfolding Catalogue AllFiles
catalogue_twelve t low [] [] g = tt
catalogue_twelve t low [] (xs ∷ fs) g = absurd g
catalogue_twelve t low (s ∷ ss) [] g = absurd g
catalogue_twelve t low (s ∷ ss) (xs ∷ fs) g = (file_twelve t low g.0.2, catalogue_twelve t low ss fs g.1)

-- after the replay of a log, from no marks, the steps over the records of a catalogue make its join with the log
pub joins : {log : Bytes} {keys papers : Words} → (r : Replays log keys papers) → length r.papers_then ≡ 512 → (t : Terms) → t.pad < 256 →
    (ss : List Bytes) (fs : List (List Raw)) → Catalogue ss fs → length (entries_of t fs) < most → length fs < most →
    Joined log (entries_of t fs) (taken_all r.keys_then r.last.lots (map (reads_of t) fs) fresh (replicate 1536 0))
unfolding replay_log
joins {log = log} r room t low ss fs g n m =
    let ls = (replay_log log).store in
    let es = (read_all log).events in
    let few = (sound es).few in
    let h : Held r.keys_then r.last.lots ls = record { papers = r.papers_then; holds = r.holds; lots_are = r.lots; few = few; room = room } in
    let a = taken_all r.keys_then r.last.lots (map (reads_of t) fs) fresh (replicate 1536 0) in
    stood_joined log (entries_of t fs) a
    (files_stood t r.keys_then r.last.lots ls h fresh [] (replicate 1536 0) fs (catalogue_twelve t low ss fs g) (fresh_stood ls few (one_each es)) (omega arith) (omega arith))
