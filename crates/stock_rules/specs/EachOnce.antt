-- Each record of the catalogue is counted under exactly one lot, or listed exactly once in one of the two lists; and the papers of the lots make the log's books.
use Rattle.std.specs.Prelude.{ℕ, ◌+◌, ◌≡◌, refl, List, [], ◌∷◌, map, Bool, true, false, cond, not, length}
use Rattle.std.proofs.Common.{arith, ap, ◌∙◌}
use Rattle.store_log.specs.Log.{Bytes, Event, Close, Logged}
use Rattle.store_log.specs.Store.{Store, same_bytes, known, Told}
use Rattle.store_log.specs.Replay.{received_by, issued_by, sum_of, papers_in}
use Rattle.store_log.specs.Read.{read_all, replay_log}
use Rattle.store_log.proofs.Books.{log_books}
use Rattle.store_log.proofs.Lots.{same_bytes_lem}
use Rattle.store_log.specs.Entries.{OneEach}
use Rattle.store_log.proofs.Entries.{one_each}
use Rattle.stock_rules.specs.Key.{Keyed}
use Rattle.stock_rules.specs.Join.{Entry, has_key, is_never, is_keyless, picked, records_of, never_in, keyless_in, LotLine, lot_lines, join_of}

-- how many of these meet a test
abbrev pub how_many : (Entry → Bool) → List Entry → ℕ
how_many f es = length (picked f es)

-- how many records that meet a test are counted under the lots
unfoldable pub under : (Entry → Bool) → Store → List Entry → ℕ
under f [] es = 0
under f (l ∷ ls) es = how_many f (records_of l.key es) + under f ls es

-- ---- One record more

one_more_lem : (f g : Entry → Bool) (e : Entry) (es : List Entry) → how_many f (picked g (e ∷ es)) ≡ cond (g e) (cond (f e) 1 0) 0 + how_many f (picked g es)
unfolding picked
one_more_lem f g e es = go (g e) (f e)
  where
    go : (a b : Bool) → length (picked f (cond a (e ∷ picked g es) (picked g es))) ≡ cond a (cond (f e) 1 0) 0 + length (picked f (picked g es))
    go true b = first (f e)
      where
        first : (c : Bool) → length (cond c (e ∷ picked f (picked g es)) (picked f (picked g es))) ≡ cond c 1 0 + length (picked f (picked g es))
        first true = omega arith
        first false = omega arith
    go false b = omega arith

-- the lots that have this record's key, each so much
unfoldable hits : ℕ → Keyed → Store → ℕ
hits w k [] = 0
hits w k (l ∷ ls) = cond (has_key l.key k) w 0 + hits w k ls

under_more : (f : Entry → Bool) (ls : Store) (e : Entry) (es : List Entry) → under f ls (e ∷ es) ≡ hits (cond (f e) 1 0) e.keyed ls + under f ls es
unfolding under hits
under_more f [] e es = refl
under_more f (l ∷ ls) e es =
    let a = one_more_lem f (λ e. has_key l.key e.keyed) e es in
    let b = under_more f ls e es in
    omega (arith, a, b)

-- ---- One lot at most has it

no_hits : (w : ℕ) (j : Bytes) (ls : Store) → known j ls ≡ false → hits w (Keyed.key j) ls ≡ 0
unfolding hits known
no_hits w j [] h = refl
no_hits w j (l ∷ ls) h = go (same_bytes j l.key) h (no_hits w j ls)
  where
    go : (a : Bool) → cond a true (known j ls) ≡ false → (known j ls ≡ false → hits w (Keyed.key j) ls ≡ 0) → cond a w 0 + hits w (Keyed.key j) ls ≡ 0
    go true k again = absurd (let z : ◌≡◌ {A = ℕ} 0 1 = cc in omega arith)
    go false k again = let e = again k in omega (arith, e)

key_hits : (w : ℕ) (j : Bytes) (ls : Store) → OneEach ls → hits w (Keyed.key j) ls ≡ cond (known j ls) w 0
unfolding hits known OneEach
key_hits w j [] g = refl
key_hits w j (l ∷ ls) g = go (same_bytes j l.key) refl (key_hits w j ls g.1)
  where
    go : (a : Bool) → same_bytes j l.key ≡ a → hits w (Keyed.key j) ls ≡ cond (known j ls) w 0 →
        cond a w 0 + hits w (Keyed.key j) ls ≡ cond (cond a true (known j ls)) w 0
    go true e again =
        let s : known j ls ≡ false = ap (λ (k : Bytes). known k ls) (same_bytes_lem j l.key e) ∙ g.0 in
        let z = no_hits w j ls s in
        omega (arith, z)
    go false e again = omega (arith, again)

keyless_hits : (w : ℕ) (k : Keyed) (ls : Store) → is_keyless k ≡ true → hits w k ls ≡ 0
unfolding hits
keyless_hits w k [] h = refl
keyless_hits w (Keyed.key j) (l ∷ ls) h = absurd (let z : ◌≡◌ {A = ℕ} 0 1 = cc in omega arith)
keyless_hits w (Keyed.no_key a b) (l ∷ ls) h = let e = keyless_hits w (Keyed.no_key a b) ls h in omega (arith, e)

once : (w : ℕ) (k : Keyed) (ls : Store) → OneEach ls → hits w k ls + cond (is_never ls k) w 0 + cond (is_keyless k) w 0 ≡ w
once w (Keyed.no_key a b) ls g = let e = keyless_hits w (Keyed.no_key a b) ls refl in omega (arith, e)
once w (Keyed.key j) ls g = go (known j ls) (key_hits w j ls g)
  where
    go : (b : Bool) → hits w (Keyed.key j) ls ≡ cond b w 0 → hits w (Keyed.key j) ls + cond (not b) w 0 + 0 ≡ w
    go true e = omega (arith, e)
    go false e = omega (arith, e)

none_under : (f : Entry → Bool) (ls : Store) → under f ls [] + 0 + 0 ≡ 0
unfolding under picked
none_under f [] = refl
none_under f (l ∷ ls) = let e = none_under f ls in omega (arith, e)

-- ---- Of any records, those that meet any test: under the lots, never received, and without a key they are all of them

pub each_once : (f : Entry → Bool) (ls : Store) → OneEach ls → (es : List Entry) →
    under f ls es + how_many f (never_in ls es) + how_many f (keyless_in es) ≡ how_many f es
unfolding picked
each_once f ls g [] = none_under f ls
each_once f ls g (e ∷ es) =
    let a = under_more f ls e es in
    let b = one_more_lem f (λ d. is_never ls d.keyed) e es in
    let c = one_more_lem f (λ d. is_keyless d.keyed) e es in
    let o = once (cond (f e) 1 0) e.keyed ls g in
    let again = each_once f ls g es in
    go (f e) refl a b c o again
  where
    go : (t : Bool) → f e ≡ t →
        under f ls (e ∷ es) ≡ hits (cond (f e) 1 0) e.keyed ls + under f ls es →
        how_many f (never_in ls (e ∷ es)) ≡ cond (is_never ls e.keyed) (cond (f e) 1 0) 0 + how_many f (never_in ls es) →
        how_many f (keyless_in (e ∷ es)) ≡ cond (is_keyless e.keyed) (cond (f e) 1 0) 0 + how_many f (keyless_in es) →
        hits (cond (f e) 1 0) e.keyed ls + cond (is_never ls e.keyed) (cond (f e) 1 0) 0 + cond (is_keyless e.keyed) (cond (f e) 1 0) 0 ≡ cond (f e) 1 0 →
        under f ls es + how_many f (never_in ls es) + how_many f (keyless_in es) ≡ how_many f es →
        under f ls (e ∷ es) + how_many f (never_in ls (e ∷ es)) + how_many f (keyless_in (e ∷ es)) ≡ length (cond t (e ∷ picked f es) (picked f es))
    go true q a b c o again = omega (arith, rw q at a, rw q at b, rw q at c, rw q at o, again)
    go false q a b c o again = omega (arith, rw q at a, rw q at b, rw q at c, rw q at o, again)

-- ---- Of the join

pub log_each : (log : Bytes) → OneEach (replay_log log).store
unfolding replay_log
log_each log = one_each (read_all log).events

unfoldable pub records_in : List LotLine → ℕ
records_in [] = 0
records_in (l ∷ ls) = l.records + records_in ls

abbrev pub any_record : Entry → Bool
any_record e = true

pub all_picked : (es : List Entry) → picked any_record es ≡ es
unfolding picked
all_picked [] = refl
all_picked (e ∷ es) = ap (λ (ds : List Entry). e ∷ ds) (all_picked es)

-- the lots of the join are those of the store, so their papers are the log's accepted receipts minus its accepted issues
pub join_lots : (vs : List Event) (ts : List Told) (ls : Store) (es : List Entry) → map (λ (l : LotLine). l.lot) (lot_lines vs ts ls es) ≡ ls
unfolding lot_lines
join_lots vs ts [] es = refl
join_lots vs ts (l ∷ ls) es = ap (λ (ms : Store). l ∷ ms) (join_lots vs ts ls es)

pub books : {log : Bytes} {vs : List Event} {c : Close} → Logged log vs c → (es : List Entry) →
    papers_in (map (λ (l : LotLine). l.lot) (join_of log es).lots) + sum_of issued_by vs (replay_log log).told ≡ sum_of received_by vs (replay_log log).told
unfolding join_of
books {log = log} {vs = vs} g es =
    ap (λ (ls : Store). papers_in ls + sum_of issued_by vs (replay_log log).told) (join_lots (read_all log).events (replay_log log).told (replay_log log).store es) ∙ log_books g
