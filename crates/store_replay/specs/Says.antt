-- What an answer says, case by case: one definition for all that is promised of answers.
use Rattle.std.specs.Prelude.{ℕ, ◌≡◌}
use Rattle.store_log.specs.Log.{Close}
use Rattle.store_log.specs.Store.{Told}
use Rattle.store_lots.specs.Memory.{Words}
use Rattle.store_replay.specs.declared.Replay.{Replay}
use Rattle.store_replay.specs.declared.Step.{Step}
use Rattle.store_replay.specs.Next.{After}

-- of an event its number, what is told of it and the state past it; or that the log has ended; or the refusal that ends the replay, and its event's number
pub data Said : Type 0 where
  tells : (event : ℕ) → Told → Replay → Said
  ends : Said
  refuses : (number event : ℕ) → Said

abbrev pub said_of : Step → Said
said_of (Step.Received q n) = Said.tells n.events (Told.received q) n
said_of (Step.Issued q n) = Said.tells n.events (Told.issued q) n
said_of (Step.Counted event lot paper shelf d n) = Said.tells event (Told.counted lot paper shelf d) n
said_of (Step.Day n) = Said.tells n.events Told.noted n
said_of (Step.Skipped number event n) = Said.tells event (Told.skipped number) n
said_of (Step.Refused number event) = Said.refuses number event
said_of Step.End = Said.ends

-- how a log closes, said at this event
abbrev pub closing : Close → ℕ → Said
closing Close.ended event = Said.ends
closing (Close.refused number) event = Said.refuses number event

-- an answer says this, and leaves these memories
pub record Says (a : After) (x : Said) (keys papers : Words) : Type 0 where
  pub said : said_of a.step ≡ x
  pub keys_then : a.keys ≡ keys
  pub papers_then : a.papers ≡ papers
