-- The books in memory: after the replay of a log the papers of its lots, summed there, are the accepted receipts minus the accepted issues of the log.
use Rattle.std.specs.Prelude.{ℕ, zero, suc, ◌+◌, ◌≡◌, refl, List, [], ◌∷◌, length, get_or}
use Rattle.std.proofs.Common.{ap, ap₂, ◌∙◌}
use Rattle.store_log.specs.Log.{Bytes, Event, Close, Logged}
use Rattle.store_log.specs.Store.{Store}
use Rattle.store_log.specs.Replay.{received_by, issued_by, sum_of, papers_in}
use Rattle.store_log.specs.Read.{replay_log}
use Rattle.store_log.proofs.Books.{log_books}
use Rattle.store_lots.specs.Memory.{Words}
use Rattle.store_lots.specs.Holds.{HoldsFrom}
use Rattle.store_replay.specs.Runs.{Replays}

-- of n lots from place i on
unfoldable pub papers_from : Words → ℕ → ℕ → ℕ
papers_from papers i zero = 0
papers_from papers i (suc n) = get_or papers i 0 + papers_from papers (i + 1) n

held_papers : (keys papers : Words) (i : ℕ) (ls : Store) → HoldsFrom keys papers i ls → papers_from papers i (length ls) ≡ papers_in ls
unfolding HoldsFrom papers_from papers_in
held_papers keys papers i [] g = refl
held_papers keys papers i (l ∷ ls) g = ap₂ ◌+◌ g.0.figure (held_papers keys papers (i + 1) ls g.1)

pub memory_books : {s : Bytes} {es : List Event} {c : Close} {keys papers : Words} → Logged s es c → (r : Replays s keys papers) →
    papers_from r.papers_then 0 r.last.lots + sum_of issued_by es (replay_log s).told ≡ sum_of received_by es (replay_log s).told
memory_books {s = s} {es = es} g r =
    ap (λ (n : ℕ). papers_from r.papers_then 0 n + sum_of issued_by es (replay_log s).told) r.lots ∙
    ap (λ (n : ℕ). n + sum_of issued_by es (replay_log s).told) (held_papers r.keys_then r.papers_then 0 (replay_log s).store r.holds) ∙
    log_books g
