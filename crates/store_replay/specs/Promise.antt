-- What a step promises, in the words of the log and the store.
use Rattle.std.specs.Prelude.{◌+◌, ◌^◌, ◌≤◌, ◌<◌, ◌≡◌, length, drop}
use Rattle.store_log.specs.Log.{Bytes, Event, Begins, Close, Closes}
use Rattle.store_log.specs.Store.{Store, event_on}
use Rattle.store_log.specs.Store as store
use Rattle.store_event.specs.Twelve.{AllBytes}
use Rattle.store_lots.specs.Memory.{Words}
use Rattle.store_lots.specs.Holds.{Holds}
use Rattle.store_replay.specs.declared.Replay.{Replay}
use Rattle.store_replay.specs.Next.{After, next_of}
use Rattle.store_replay.specs.Says.{Said, said_of, closing, Says}

-- memory has room for all lots and holds this store, and the state counts its lots
pub record Stood (r : Replay) (ls : Store) (keys papers : Words) : Type 0 where
  pub lots : r.lots ≡ length ls
  pub few : length ls ≤ 512
  pub holds : Holds keys papers ls
  pub keys_room : length keys ≡ 1536
  pub papers_room : length papers ≡ 512

-- what every slice of bytes has, and fewer events than any log has bytes
pub record Usual (r : Replay) (s : Bytes) : Type 0 where
  pub small : AllBytes s
  pub size : length s < 2 ^ 63
  pub count : r.events < 2 ^ 63

-- the answer after an event that left b: it tells what b tells, with the event's number; the state is past the event's bytes, and memory holds b's store
pub record Goes (r : Replay) (s t : Bytes) (b : store.After) (a : After) : Type 0 where
  pub next : Replay
  pub said : said_of a.step ≡ Said.tells (r.events + 1) b.told next
  pub numbered : next.events ≡ r.events + 1
  pub further : r.at < next.at
  pub within : next.at ≤ length s
  pub rest : drop next.at s ≡ t
  pub stood : Stood next b.store a.keys a.papers

-- the answer and both memories are fixed for any state, log and memory; where memory holds a store, they follow the log:
-- the event that begins there, or how the log closes there, which changes no memory
pub record Promise (r : Replay) (s : Bytes) (keys papers : Words) (a : After) : Type 0 where
  pub answer : a ≡ next_of r s keys papers
  pub event : (ls : Store) → Stood r ls keys papers → Usual r s → (e : Event) (t : Bytes) → Begins (drop r.at s) e t → Goes r s t (event_on e ls) a
  pub close : (ls : Store) → Stood r ls keys papers → Usual r s → (c : Close) → Closes (drop r.at s) c → Says a (closing c (r.events + 1)) keys papers
