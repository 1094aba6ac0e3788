-- The log read from its front: the event there, or how the log closes.
use Rattle.std.specs.Prelude.{ℕ, zero, suc, ◌+◌, ◌*◌, List, [], ◌∷◌, cond, eqb, ltb, length, take, drop, get_or}
use Rattle.store_log.specs.Log.{Bytes, Kind, Event, Close}
use Rattle.store_log.specs.Store.{Store, Told}
use Rattle.store_log.specs.Replay.{replay}

-- the bodies that there are
pub data Body : Type 0 where
  scan : Kind → Body
  day : Body
  unknown : Body

pub data Reading : Type 0 where
  event : Event → Bytes → Reading
  close : Close → Reading

unfoldable pub body_of : ℕ → Body
body_of x =
    cond (eqb x 82) (Body.scan Kind.received)
    (cond (eqb x 73) (Body.scan Kind.issued)
    (cond (eqb x 67) (Body.scan Kind.counted)
    (cond (eqb x 68) Body.day Body.unknown)))

unfoldable pub read_body : Body → Bytes → Reading
read_body (Body.scan k) t =
    cond (ltb (length t) 14) (Reading.close (Close.refused 27)) (Reading.event (Event.scan k (take 12 t) (get_or t 12 0 + 256 * get_or t 13 0)) (drop 14 t))
read_body Body.day t = cond (ltb (length t) 4) (Reading.close (Close.refused 27)) (Reading.event (Event.day (take 4 t)) (drop 4 t))
read_body Body.unknown t = Reading.close (Close.refused 26)

unfoldable pub read_of : Bytes → Reading
read_of [] = Reading.close Close.ended
read_of (x ∷ t) = read_body (body_of x) t

-- ---- The whole log

pub record Whole : Type 0 where
  pub events : List Event
  pub close : Close

abbrev pub before : Event → Whole → Whole
before e w = record { events = e ∷ w.events; close = w.close }

abbrev pub read_by : Reading → (Bytes → Whole) → Whole
read_by (Reading.event e t) again = before e (again t)
read_by (Reading.close c) again = record { events = []; close = c }

-- with fuel for as many events
unfoldable pub read_from : ℕ → Bytes → Whole
read_from zero s = record { events = []; close = Close.ended }
read_from (suc fuel) s = read_by (read_of s) (λ t. read_from fuel t)

-- an event takes a byte or more
unfoldable pub read_all : Bytes → Whole
read_all s = read_from (suc (length s)) s

pub record Outcome : Type 0 where
  pub told : List Told
  pub store : Store
  pub close : Close

-- the replay of a log, from its bytes; a refusal that closes it is of the event after the last that is told
unfoldable pub replay_log : Bytes → Outcome
replay_log s =
    let w = read_all s in
    let r = replay w.events in
    record { told = r.told; store = r.store; close = w.close }
