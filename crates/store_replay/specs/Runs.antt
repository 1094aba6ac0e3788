-- Steps from a fresh state over a log: what they tell of each event, where they stop, and the memory they leave.
use Rattle.std.specs.Prelude.{◌+◌, ◌≡◌, List, [], ◌∷◌, length}
use Rattle.store_log.specs.Log.{Bytes, Close}
use Rattle.store_log.specs.Store.{Told}
use Rattle.store_log.specs.Read.{replay_log}
use Rattle.store_lots.specs.Memory.{Words}
use Rattle.store_lots.specs.Holds.{Holds}
use Rattle.store_replay.specs.declared.Replay.{Replay}
use Rattle.store_replay.specs.Next.{fresh, next_of}
use Rattle.store_replay.specs.Says.{Said, closing, Says}

-- from a state and memories on: what is told of each event, how it stops, and the state and the memories then
pub data Runs (s : Bytes) : Replay → Words → Words → List Told → Close → Replay → Words → Words → Type 0 where
  stop : {r : Replay} {keys papers : Words} {c : Close} → Says (next_of r s keys papers) (closing c (r.events + 1)) keys papers → Runs s r keys papers [] c r keys papers
  more : {r m n : Replay} {keys papers ks ps kz pz : Words} {t : Told} {ts : List Told} {c : Close} →
      Says (next_of r s keys papers) (Said.tells (r.events + 1) t m) ks ps → m.events ≡ r.events + 1 →
      Runs s m ks ps ts c n kz pz → Runs s r keys papers (t ∷ ts) c n kz pz

-- the steps tell what the log's replay tells, and memory holds its store
pub record Replays (s : Bytes) (keys papers : Words) : Type 0 where
  pub last : Replay
  pub keys_then : Words
  pub papers_then : Words
  pub runs : Runs s fresh keys papers (replay_log s).told (replay_log s).close last keys_then papers_then
  pub lots : last.lots ≡ length (replay_log s).store
  pub holds : Holds keys_then papers_then (replay_log s).store
