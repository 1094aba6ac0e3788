-- What a step of the replay answers, and what both lent memories hold after it.
use Rattle.std.specs.Prelude.{ℕ, ◌+◌, ◌-◌, ◌^◌, ◌≤◌, ◌<◌, Bool, cond, ◌&&◌, ltb, leb, length, set, pos, ◌-ℤ◌}
use Rattle.store_log.specs.Log.{Bytes}
use Rattle.store_log.specs.Store.{most_lots, most_paper}
use Rattle.store_event.specs.declared.Key.{Key}
use Rattle.store_event.specs.declared.Scan.{Scan}
use Rattle.store_replay.specs.declared.Replay.{Replay}
use Rattle.store_replay.specs.declared.Step.{Step}
use Rattle.store_lots.specs.Memory.{Words, place_from, paper_at, put_key}
use Rattle.store_event.specs.Scan.{scan_at}

abbrev pub fresh : Replay
fresh = record { at = 0; events = 0; lots = 0 }

abbrev pub past : Replay → ℕ → Replay
past r bytes = record { at = r.at + bytes; events = r.events + 1; lots = r.lots }

-- ---- What it does; r is the state past the event

-- the answer, and both memories
pub record After : Type 0 where
  pub step : Step
  pub keys : Words
  pub papers : Words

abbrev pub after : Step → Words → Words → After
after step keys papers = record { step = step; keys = keys; papers = papers }

abbrev pub lot_of : Replay → Key → Words → ℕ
lot_of r k keys = place_from keys k 0 r.lots

abbrev pub receipt_in : Replay → Key → ℕ → Words → Words → (lot paper : ℕ) → After
receipt_in r k q keys papers lot paper =
    cond (ltb most_paper (paper + q)) (after (Step.Skipped 29 r.events r) keys papers)
    (cond (ltb lot r.lots) (after (Step.Received q r) keys (set papers lot (paper + q)))
    (cond (ltb r.lots most_lots)
    (after (Step.Received q (record { at = r.at; events = r.events; lots = r.lots + 1 })) (put_key keys r.lots k) (set papers r.lots q))
    (after (Step.Skipped 30 r.events r) keys papers)))

unfoldable pub receipt_at : Replay → Key → ℕ → Words → Words → After
receipt_at r k q keys papers = receipt_in r k q keys papers (lot_of r k keys) (paper_at papers (lot_of r k keys) r.lots)

abbrev pub issue_in : Replay → ℕ → Words → Words → (lot paper : ℕ) → After
issue_in r q keys papers lot paper =
    cond (ltb paper q) (after (Step.Skipped 28 r.events r) keys papers)
    (after (Step.Issued q r) keys (cond (ltb lot r.lots) (set papers lot (paper - q)) papers))

unfoldable pub issue_at : Replay → Key → ℕ → Words → Words → After
issue_at r k q keys papers = issue_in r q keys papers (lot_of r k keys) (paper_at papers (lot_of r k keys) r.lots)

abbrev pub count_in : Replay → ℕ → (lot paper : ℕ) → Step
count_in r shelf lot paper = Step.Counted r.events lot paper shelf (pos paper -ℤ pos shelf) r

unfoldable pub count_at : Replay → Key → ℕ → Words → Words → Step
count_at r k shelf keys papers =
    count_in r shelf (lot_of r k keys) (paper_at papers (lot_of r k keys) r.lots)

-- ---- The step

abbrev pub next_by : Replay → Scan → Words → Words → After
next_by r (Scan.Received k q) keys papers = receipt_at (past r 15) k q keys papers
next_by r (Scan.Issued k q) keys papers = issue_at (past r 15) k q keys papers
next_by r (Scan.Counted k q) keys papers = after (count_at (past r 15) k q keys papers) keys papers
next_by r Scan.Day keys papers = after (Step.Day (past r 5)) keys papers
next_by r Scan.Unknown keys papers = after (Step.Refused 26 (r.events + 1)) keys papers
next_by r Scan.Cut keys papers = after (Step.Refused 27 (r.events + 1)) keys papers

unfoldable pub next_at : Replay → Bytes → Words → Words → After
next_at r s keys papers = next_by r (scan_at s r.at) keys papers

-- bytes are left, and a replay may stand here
pub record Stands (r : Replay) (s : Bytes) : Type 0 where
  pub left : r.at < length s
  pub lots : r.lots ≤ most_lots
  pub events : r.events < 2 ^ 63

unfoldable pub stands : Replay → Bytes → Bool
stands r s = ltb r.at (length s) && (leb r.lots most_lots && ltb r.events (2 ^ 63))

-- any state; at the end no memory changes
unfoldable pub next_of : Replay → Bytes → Words → Words → After
next_of r s keys papers = cond (stands r s) (next_at r s keys papers) (after Step.End keys papers)
