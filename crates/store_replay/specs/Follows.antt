-- Steps from a fresh state follow the replay of the log, event by event.
use Rattle.std.specs.Prelude.{ℕ, ◌+◌, ◌-◌, ◌*◌, ◌≤◌, ◌<◌, ◌^◌, ◌≡◌, Bool, cond, ltb, drop, ◌-ℤ◌}
use Rattle.std.proofs.Common.{arith, sym, ap, ◌∙◌, subst, length-set, length-drop, length-append, ltb-true}
use Rattle.std.proofs.Math.Path.{refl}
use mathlib.Core.List.{List, [], ◌∷◌}
use Rattle.std.proofs.Math.Bool.{true, false}
use Rattle.std.proofs.Math.ListN.{length, set}
use Rattle.std.proofs.Math.IntN.{pos}
use Rattle.store_log.specs.Log.{Bytes, Kind, Event, Begins, Events, Close, Closes, a_scan, a_day, none, more, no_byte, no_kind, cut_scan, cut_day}
use Rattle.store_log.specs.Store.{Store, known, paper_of, place_of, with_paper, most_lots, most_paper, Told, receipt_by, receipt, issue_by, issue, count, event_on}
use Rattle.store_log.specs.Store as store
use Rattle.store_log.specs.Replay.{replay_from}
use Rattle.store_log.specs.Read.{read_all, replay_log}
use Rattle.store_log.specs.OneReading.{read_logged}
use Rattle.store_log.specs.Books.{unknown_same}
use Rattle.store_log.specs.Limits.{with_length}
use Rattle.store_event.specs.declared.Scan.{Scan}
use Rattle.store_replay.specs.declared.Replay.{Replay}
use Rattle.store_replay.specs.declared.Step.{Step}
use Rattle.store_lots.specs.Memory.{Words, place_from, put_key}
use Rattle.store_event.specs.Scan.{key_at, scan_at}
use Rattle.store_replay.specs.Next.{fresh, past, After, after, receipt_at, issue_at, count_at, next_by, next_at, Stands, next_of}
use Rattle.store_event.specs.Twelve.{AllBytes, Twelve}
use Rattle.store_lots.specs.Holds.{HoldsFrom}
use Rattle.store_replay.specs.Says.{Said, said_of, closing, Says}
use Rattle.store_replay.specs.Promise.{Stood, Usual, Goes, Promise}
use Rattle.store_replay.specs.Runs.{Runs, stop, more, Replays}
use Rattle.store_replay.specs.Stepping.{none_left, here}
use Rattle.store_lots.specs.Places.{with_stored, known_is, paper_is, place_is, new_stored}
use Rattle.store_event.specs.There.{scanned, key_twelve, scan_left, scan_there, scan_rest, day_left, day_there, day_rest, some_left, unknown_there, cut_scan_there, cut_day_there}

-- the answer that tells this of an event
abbrev step_of : Told → ℕ → Replay → Step
step_of (Told.received q) event r = Step.Received q r
step_of (Told.issued q) event r = Step.Issued q r
step_of (Told.counted lot paper shelf d) event r = Step.Counted event lot paper shelf d r
step_of Told.noted event r = Step.Day r
step_of (Told.skipped number) event r = Step.Skipped number event r

said_step : (t : Told) (event : ℕ) (r : Replay) → r.events ≡ event → said_of (step_of t event r) ≡ Said.tells event t r
said_step (Told.received q) event r h = ap (λ (i : ℕ). Said.tells i (Told.received q) r) h
said_step (Told.issued q) event r h = ap (λ (i : ℕ). Said.tells i (Told.issued q) r) h
said_step (Told.counted lot paper shelf d) event r h = refl
said_step Told.noted event r h = ap (λ (i : ℕ). Said.tells i Told.noted r) h
said_step (Told.skipped number) event r h = refl

-- the answer at which a replay stops
abbrev last_of : Close → ℕ → Step
last_of Close.ended event = Step.End
last_of (Close.refused number) event = Step.Refused number event

said_last : (c : Close) (event : ℕ) → said_of (last_of c event) ≡ closing c event
said_last Close.ended event = refl
said_last (Close.refused number) event = refl

-- an answer with its memories follows what an event does to the store; n is the state past the event
pub record Moves (n : Replay) (a : store.After) (b : After) : Type 0 where
  pub next : Replay
  pub ks : Words
  pub ps : Words
  pub same : b ≡ after (step_of a.told n.events next) ks ps
  pub at_same : next.at ≡ n.at
  pub events_same : next.events ≡ n.events
  pub stood : Stood next a.store ks ps

-- ---- One event

module _ (i e : ℕ) (ls : Store) (keys papers : Words) (g : Stood (record { at = i; events = e; lots = length ls }) ls keys papers) where
  abbrev n : Replay
  n = record { at = i; events = e; lots = length ls }

  stays : (t : Told) → Moves n (record { told = t; store = ls }) (after (step_of t n.events n) keys papers)
  stays t = record { next = n; ks = keys; ps = papers; same = refl; at_same = refl; events_same = refl; stood = g }

  module _ (key : Bytes) (f : Twelve key) where
    abbrev lot : ℕ
    lot = place_from keys (key_at key 0) 0 (length ls)

    stored : (p : ℕ) → known key ls ≡ true → Stood n (with_paper key p ls) keys (set papers lot p)
    stored p h =
        let l = with_length key p ls in
        let w = g.few in
        record {
          lots = g.lots ∙ sym l;
          few = omega (arith, l, w);
          holds = with_stored keys papers key f ls g.holds g.few g.papers_room p h;
          keys_room = g.keys_room;
          papers_room = length-set papers lot p ∙ g.papers_room;
        }

    receipt_moves : (q : ℕ) → Moves n (receipt key q ls) (receipt_at n (key_at key 0) q keys papers)
    unfolding receipt receipt_at put_key
    receipt_moves q =
        rw (paper_is keys papers key f ls g.holds g.few g.papers_room, known_is keys papers key f ls g.holds g.few g.papers_room)
        (go (ltb most_paper (paper_of key ls + q)) (known key ls) refl (ltb (length ls) most_lots) refl)
      where
        bigger : Replay
        bigger = record { at = n.at; events = n.events; lots = length ls + 1 }

        go : (t u : Bool) → known key ls ≡ u → (v : Bool) → ltb (length ls) most_lots ≡ v → Moves n (receipt_by t u v key q ls)
            (cond t (after (Step.Skipped 29 n.events n) keys papers)
            (cond u (after (Step.Received q n) keys (set papers lot (paper_of key ls + q)))
            (cond v (after (Step.Received q bigger) (put_key keys (length ls) (key_at key 0)) (set papers (length ls) q))
            (after (Step.Skipped 30 n.events n) keys papers))))
        go true u k v h = stays (Told.skipped 29)
        go false true k v h = record {
          next = n;
          ks = keys;
          ps = set papers lot (paper_of key ls + q);
          same = refl;
          at_same = refl;
          events_same = refl;
          stood = stored (paper_of key ls + q) k;
        }
        go false false k true h =
            let l = length-append ls (record { key = key; paper = q } ∷ []) in
            let w = ltb-true (length ls) most_lots h in
            let ka = length-set keys (length ls) (key_at key 0).supplier in
            let kb = length-set (set keys (length ls) (key_at key 0).supplier) (512 + length ls) (key_at key 0).first in
            let kc = length-set (set (set keys (length ls) (key_at key 0).supplier) (512 + length ls) (key_at key 0).first) (1024 + length ls) (key_at key 0).second in
            record {
              next = bigger;
              ks = put_key keys (length ls) (key_at key 0);
              ps = set papers (length ls) q;
              same = refl;
              at_same = refl;
              events_same = refl;
              stood = record {
                lots = sym l;
                few = omega (arith, l, w);
                holds = new_stored keys papers key f ls g.holds g.keys_room g.papers_room w q;
                keys_room = kc ∙ kb ∙ ka ∙ g.keys_room;
                papers_room = length-set papers (length ls) q ∙ g.papers_room;
              };
            }
        go false false k false h = stays (Told.skipped 30)

    issue_moves : (q : ℕ) → Moves n (issue key q ls) (issue_at n (key_at key 0) q keys papers)
    unfolding issue issue_at
    issue_moves q =
        rw (paper_is keys papers key f ls g.holds g.few g.papers_room, known_is keys papers key f ls g.holds g.few g.papers_room)
        (go (ltb (paper_of key ls) q) (known key ls) refl)
      where
        go : (t u : Bool) → known key ls ≡ u → Moves n (issue_by t key q ls)
            (cond t (after (Step.Skipped 28 n.events n) keys papers)
            (after (Step.Issued q n) keys (cond u (set papers lot (paper_of key ls - q)) papers)))
        go true u k = stays (Told.skipped 28)
        go false true k = record {
          next = n;
          ks = keys;
          ps = set papers lot (paper_of key ls - q);
          same = refl;
          at_same = refl;
          events_same = refl;
          stood = stored (paper_of key ls - q) k;
        }
        go false false k = rw (unknown_same key (paper_of key ls - q) ls k) (stays (Told.issued q))

    count_moves : (q : ℕ) → Moves n (count key q ls) (after (count_at n (key_at key 0) q keys papers) keys papers)
    unfolding count count_at
    count_moves q =
        rw (paper_is keys papers key f ls g.holds g.few g.papers_room, place_is keys papers key f ls g.holds)
        (stays (Told.counted (place_of key ls) (paper_of key ls) q (pos (paper_of key ls) -ℤ pos q)))

module _ (s : Bytes) (small : AllBytes s) where
  scan_moves : (i e : ℕ) (k : Kind) (key : Bytes) (q : ℕ) (ls : Store) (keys papers : Words) → Twelve key →
      Stood (record { at = i + 15; events = e + 1; lots = length ls }) ls keys papers →
      Moves (record { at = i + 15; events = e + 1; lots = length ls }) (event_on (Event.scan k key q) ls)
      (next_by (record { at = i; events = e; lots = length ls }) (scanned k (key_at key 0) q) keys papers)
  unfolding event_on
  scan_moves i e Kind.received key q ls keys papers f g = receipt_moves (i + 15) (e + 1) ls keys papers g key f q
  scan_moves i e Kind.issued key q ls keys papers f g = issue_moves (i + 15) (e + 1) ls keys papers g key f q
  scan_moves i e Kind.counted key q ls keys papers f g = count_moves (i + 15) (e + 1) ls keys papers g key f q

  day_moves : (i e : ℕ) (date : Bytes) (ls : Store) (keys papers : Words) → Stood (record { at = i + 5; events = e + 1; lots = length ls }) ls keys papers →
      Moves (record { at = i + 5; events = e + 1; lots = length ls }) (event_on (Event.day date) ls)
      (next_by (record { at = i; events = e; lots = length ls }) Scan.Day keys papers)
  unfolding event_on
  day_moves i e date ls keys papers g = stays (i + 5) (e + 1) ls keys papers g Told.noted

  -- a state has as many lots as the store
  with_lots : (P : Replay → Type 0) (r : Replay) (n : ℕ) → r.lots ≡ n → P (record { at = r.at; events = r.events; lots = n }) → P r
  with_lots P r n h p = subst (λ (l : ℕ). P (record { at = r.at; events = r.events; lots = l })) (sym h) p

  lots_stood : (r : Replay) (b : ℕ) (ls : Store) (keys papers : Words) → Stood r ls keys papers →
      Stood (record { at = r.at + b; events = r.events + 1; lots = length ls }) ls keys papers
  lots_stood r b ls keys papers g = record { lots = refl; few = g.few; holds = g.holds; keys_room = g.keys_room; papers_room = g.papers_room }

  -- a step reads the event that stands there
  pub record Steps (r : Replay) (e : Event) (t : Bytes) (ls : Store) (keys papers : Words) : Type 0 where
    pub bytes : ℕ
    pub taken : bytes ≤ 15
    pub byte : 1 ≤ bytes
    pub within : r.at + bytes ≤ length s
    pub rest : drop (r.at + bytes) s ≡ t
    pub moves : Moves (past r bytes) (event_on e ls) (next_of r s keys papers)

  stands_there : (r : Replay) (ls : Store) (keys papers : Words) → Stood r ls keys papers → r.at < length s → r.events < 2 ^ 63 → Stands r s
  stands_there r ls keys papers g h l =
      let a = g.lots in
      let b = g.few in
      record { left = h; lots = omega (arith, a, b); events = l }

  next_there : (r : Replay) (x : Scan) (keys papers : Words) → Stands r s → scan_at s r.at ≡ x → next_of r s keys papers ≡ next_by r x keys papers
  unfolding next_of next_at
  next_there r x keys papers g e = rw (here r s keys papers g, e)

  step : (r : Replay) (e : Event) (u t : Bytes) (ls : Store) (keys papers : Words) → Stood r ls keys papers → r.events < 2 ^ 63 → drop r.at s ≡ u → Begins u e t →
      Steps r e t ls keys papers
  step r e u t ls keys papers g l d (a_scan k key low high rest count w) =
      let there = d ∙ w in
      let left = scan_left s small r.at k key low high rest count there in
      let h : r.at < length s = omega (arith, left) in
      let q = next_there r (scanned k (key_at key 0) (low + 256 * high)) keys papers (stands_there r ls keys papers g h l) (scan_there s small r.at k key low high rest count there) in
      record {
        bytes = 15;
        taken = omega arith;
        byte = omega arith;
        within = omega (arith, left);
        rest = scan_rest s small r.at k key low high rest count there;
        moves = subst (Moves (past r 15) (event_on (Event.scan k key (low + 256 * high)) ls)) (sym q)
            (with_lots (λ m. Moves (past m 15) (event_on (Event.scan k key (low + 256 * high)) ls) (next_by m (scanned k (key_at key 0) (low + 256 * high)) keys papers)) r (length ls) g.lots
            (scan_moves r.at r.events k key (low + 256 * high) ls keys papers (key_twelve s small r.at k key low high rest count there) (lots_stood r 15 ls keys papers g)));
      }
  step r e u t ls keys papers g l d (a_day date rest count w) =
      let there = d ∙ w in
      let left = day_left s r.at date rest count there in
      let h : r.at < length s = omega (arith, left) in
      let q = next_there r Scan.Day keys papers (stands_there r ls keys papers g h l) (day_there s r.at date rest count there) in
      record {
        bytes = 5;
        taken = omega arith;
        byte = omega arith;
        within = omega (arith, left);
        rest = day_rest s r.at date rest count there;
        moves = subst (Moves (past r 5) (event_on (Event.day date) ls)) (sym q)
            (with_lots (λ m. Moves (past m 5) (event_on (Event.day date) ls) (next_by m Scan.Day keys papers)) r (length ls) g.lots
            (day_moves r.at r.events date ls keys papers (lots_stood r 5 ls keys papers g)));
      }

  -- ---- Where no event stands

  last_step : (r : Replay) (u : Bytes) (c : Close) (ls : Store) (keys papers : Words) → Stood r ls keys papers → r.events < 2 ^ 63 → drop r.at s ≡ u → Closes u c →
      next_of r s keys papers ≡ after (last_of c (r.events + 1)) keys papers
  last_step r u c ls keys papers g l d (no_byte w) =
      let e = sym (length-drop r.at s) ∙ ap length (d ∙ w) in
      sym (none_left r s keys papers (omega (arith, e)))
  last_step r u c ls keys papers g l d (no_kind x t w h j) =
      next_there r Scan.Unknown keys papers (stands_there r ls keys papers g (some_left s r.at x t (d ∙ w)) l) (unknown_there s r.at x t (d ∙ w) h j)
  last_step r u c ls keys papers g l d (cut_scan k t w h) =
      next_there r Scan.Cut keys papers (stands_there r ls keys papers g (some_left s r.at _ t (d ∙ w)) l) (cut_scan_there s r.at k t (d ∙ w) h)
  last_step r u c ls keys papers g l d (cut_day t w h) =
      next_there r Scan.Cut keys papers (stands_there r ls keys papers g (some_left s r.at _ t (d ∙ w)) l) (cut_day_there s r.at t (d ∙ w) h)

  -- ---- The promise

  goes : (r : Replay) (e : Event) (t : Bytes) (ls : Store) (keys papers : Words) → Steps r e t ls keys papers → Goes r s t (event_on e ls) (next_of r s keys papers)
  goes r e t ls keys papers p =
      let m = p.moves in
      let n = m.next in
      let a = m.at_same in
      let y = p.byte in
      let w = p.within in
      record {
        next = n;
        said = ap (λ (b : After). said_of b.step) m.same ∙ said_step (event_on e ls).told (r.events + 1) n m.events_same;
        numbered = m.events_same;
        further = omega (arith, a, y);
        within = omega (arith, a, w);
        rest = ap (λ (i : ℕ). drop i s) a ∙ p.rest;
        stood = subst (λ (b : After). Stood n (event_on e ls).store b.keys b.papers) (sym m.same) m.stood;
      }

  closes : (r : Replay) (c : Close) (keys papers : Words) → next_of r s keys papers ≡ after (last_of c (r.events + 1)) keys papers →
      Says (next_of r s keys papers) (closing c (r.events + 1)) keys papers
  closes r c keys papers h = record {
    said = ap (λ (b : After). said_of b.step) h ∙ said_last c (r.events + 1);
    keys_then = ap (λ (b : After). b.keys) h;
    papers_then = ap (λ (b : After). b.papers) h;
  }

pub next_promise : (r : Replay) (s : Bytes) (keys papers : Words) → Promise r s keys papers (next_of r s keys papers)
next_promise r s keys papers = record {
  answer = refl;
  event = λ ls g u e t b. goes s u.small r e t ls keys papers (step s u.small r e (drop r.at s) t ls keys papers g u.count refl b);
  close = λ ls g u c k. closes s u.small r c keys papers (last_step s u.small r (drop r.at s) c ls keys papers g u.count refl k);
}

pub promised : (r : Replay) (s : Bytes) (keys papers : Words) (a : After) → a ≡ next_of r s keys papers → Promise r s keys papers a
promised r s keys papers a h = subst (Promise r s keys papers) (sym h) (next_promise r s keys papers)

-- ---- The whole log

module _ (s : Bytes) (small : AllBytes s) (size : length s < 2 ^ 63) where
  record Walk (r : Replay) (es : List Event) (c : Close) (ls : Store) (keys papers : Words) : Type 0 where
    pub last : Replay
    pub kz : Words
    pub pz : Words
    pub runs : Runs s r keys papers (replay_from ls es).told c last kz pz
    pub stood : Stood last (replay_from ls es).store kz pz

  one_more_lem : (r n : Replay) (e : Event) (es : List Event) (c : Close) (ls : Store) (keys papers : Words) →
      said_of (next_of r s keys papers).step ≡ Said.tells (r.events + 1) (event_on e ls).told n → n.events ≡ r.events + 1 →
      Walk n es c (event_on e ls).store (next_of r s keys papers).keys (next_of r s keys papers).papers → Walk r (e ∷ es) c ls keys papers
  unfolding replay_from
  one_more_lem r n e es c ls keys papers h j z =
      record { last = z.last; kz = z.kz; pz = z.pz; runs = Runs.more (record { said = h; keys_then = refl; papers_then = refl }) j z.runs; stood = z.stood }

  -- a state has read at least a byte for each event, and no byte past the log
  walk : (r : Replay) {u rest : Bytes} {es : List Event} (c : Close) (ls : Store) (keys papers : Words) → Stood r ls keys papers → r.events ≤ r.at → r.at ≤ length s →
      drop r.at s ≡ u → Events u es rest → Closes rest c → Walk r es c ls keys papers
  unfolding replay_from
  walk r c ls keys papers g l w d none k =
      let p = next_promise r s keys papers in
      let v : Usual r s = record { small = small; size = size; count = omega (arith, l, w, size) } in
      record { last = r; kz = keys; pz = papers; runs = stop (p.close ls g v c (subst (λ (x : Bytes). Closes x c) (sym d) k)); stood = g }
  walk r c ls keys papers g l w d (Events.more {s = u} {t = t} {e = e} {es = es} b v) k =
      let p = next_promise r s keys papers in
      let h : Usual r s = record { small = small; size = size; count = omega (arith, l, w, size) } in
      let m = p.event ls g h e t (subst (λ (x : Bytes). Begins x e t) (sym d) b) in
      let n = m.next in
      let j = m.numbered in
      let y = m.further in
      let x = next_of r s keys papers in
      one_more_lem r n e es c ls keys papers m.said j
      (walk n c (event_on e ls).store x.keys x.papers m.stood (omega (arith, j, l, y)) m.within m.rest v k)

  pub replays : (keys papers : Words) → length keys ≡ 1536 → length papers ≡ 512 → Replays s keys papers
  unfolding replay_log HoldsFrom
  replays keys papers hk hp =
      let g = read_logged s in
      let start : Stood fresh [] keys papers = record { lots = refl; few = omega arith; holds = tt; keys_room = hk; papers_room = hp } in
      let w = walk fresh (read_all s).close [] keys papers start (omega arith) (omega arith) refl g.events g.closes in
      record { last = w.last; keys_then = w.kz; papers_then = w.pz; runs = w.runs; lots = w.stood.lots; holds = w.stood.holds }
